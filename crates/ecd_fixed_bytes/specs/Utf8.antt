-- The functions that check UTF-8: their trees, and what they answer.
use Rattle.std.specs.Prelude.{ℕ, Bool, true, false, ◌+◌, ◌*◌, ◌≡◌, ◌↔◌, ◌&&◌, List, [], ◌∷◌, ◌++◌, codes, nat_lt, ◌==◌, if◌then◌else◌}
use Rattle.std.specs.Str.{is_utf8}
use Rattle.ecd_cast.specs.declared.tree.Op.{Op}
use Rattle.ecd_cast.specs.declared.tree.Op.TheVariants.{Eq, Lt, Gt, And}
use Rattle.ecd_cast.specs.declared.tree.Expr.TheVariants.{Number, Var, Load, Binary}
use Rattle.ecd_cast.specs.declared.tree.Source.TheVariants.{Call as FromCall}
use Rattle.ecd_cast.specs.declared.tree.Stmt.{Stmt}
use Rattle.ecd_cast.specs.declared.tree.Stmt.TheVariants.{Assign, For, Return}
use Rattle.ecd_cast.specs.declared.tree.Function.{Function}
use Rattle.ecd_cast.specs.declared.tree.CItem.{CItem}
use Rattle.ecd_cast.specs.declared.tree.CItem.TheVariants.{Function as AFunction}
use Rattle.ecd_cast.specs.declared.value.Value.TheVariants.{Number as Num, Bytes as Ptr}
use Rattle.ecd_cast.specs.Memory.{Name, Memory}
use Rattle.ecd_calculus.specs.Ends.{Answers}
use Rattle.ecd_emit.specs.Shorthands.{number, pointer, let_number, guard, guard_call}
use Rattle.ecd_emit.specs.Variables as v
use Rattle.ecd_emit.specs.Windows.{Callee, Window}

-- ---- how far into a character some bytes are: 0 between characters; 1, 2 and 3 where so many bytes are wanting, of 80 to bf each;
-- 4 to 7 behind e0, ed, f0 and f4, whose next byte has a narrower range; 8 where no UTF-8 goes on so

-- behind the first byte of a character
unfoldable pub begun : ℕ → ℕ
begun byte =
    if nat_lt byte 128 then 0
    else (if nat_lt byte 194 then 8
    else (if nat_lt byte 224 then 1
    else (if byte == 224 then 4
    else (if byte == 237 then 5
    else (if nat_lt byte 240 then 2
    else (if byte == 240 then 6
    else (if nat_lt byte 244 then 3
    else (if byte == 244 then 7 else 8))))))))

-- behind a further byte
unfoldable pub gone_on : ℕ → ℕ → ℕ
gone_on state byte =
    if nat_lt byte 128 then 8
    else (if nat_lt 191 byte then 8
    else (if (state == 4) && nat_lt byte 160 then 8
    else (if (state == 5) && nat_lt 159 byte then 8
    else (if (state == 6) && nat_lt byte 144 then 8
    else (if (state == 7) && nat_lt 143 byte then 8
    else (if state == 1 then 0
    else (if state == 2 then 1
    else (if state == 3 then 2
    else (if nat_lt state 6 then 1 else 2)))))))))

-- Behind one more byte. What it gives for a state of 8 has no meaning.
unfoldable pub next_state : ℕ → ℕ → ℕ
next_state state byte = if state == 0 then begun byte else gone_on state byte

-- Behind all bytes. From 8 on it stays 8, and next_state is not asked again.
abbrev pub state_behind : ℕ → List ℕ → ℕ
state_behind state [] = state
state_behind state (byte ∷ bytes) = if next_state state byte == 8 then 8 else state_behind (next_state state byte) bytes

-- ---- the trees

abbrev pub byte_where : Op → (bound answer : ℕ) → Stmt
byte_where op bound answer = guard op (Var v.byte) (Number bound) (Number answer)

abbrev pub begin_body : List Stmt
begin_body =
    byte_where Lt 128 0 ∷
    byte_where Lt 194 8 ∷
    byte_where Lt 224 1 ∷
    byte_where Eq 224 4 ∷
    byte_where Eq 237 5 ∷
    byte_where Lt 240 2 ∷
    byte_where Eq 240 6 ∷
    byte_where Lt 244 3 ∷
    byte_where Eq 244 7 ∷
    Return (Number 8) ∷ []

unfoldable pub utf8_begin : Function
utf8_begin = record { name = codes "utf8_begin"; params = number v.byte ∷ []; body = begin_body }

-- `if ((state == n) && (byte op bound)) { return 8ull; } else { }`
abbrev pub narrower : (n : ℕ) → Op → (bound : ℕ) → Stmt
narrower n op bound = guard And (Binary Eq (Var v.state) (Number n)) (Binary op (Var v.byte) (Number bound)) (Number 8)

abbrev pub state_where : Op → (bound answer : ℕ) → Stmt
state_where op bound answer = guard op (Var v.state) (Number bound) (Number answer)

-- `if (state == 0ull) { uint64_t begun = utf8_begin(byte); return begun; } else { }`
abbrev pub where_between : Stmt
where_between = guard_call Eq (Var v.state) (Number 0) v.begun (codes "utf8_begin") (Var v.byte ∷ [])

abbrev pub ranges : List Stmt
ranges =
    where_between ∷
    byte_where Lt 128 8 ∷
    byte_where Gt 191 8 ∷
    narrower 4 Lt 160 ∷
    narrower 5 Gt 159 ∷
    narrower 6 Lt 144 ∷
    narrower 7 Gt 143 ∷ []

abbrev pub next_body : List Stmt
next_body =
    ranges ++
    state_where Eq 1 0 ∷
    state_where Eq 2 1 ∷
    state_where Eq 3 2 ∷
    state_where Lt 6 1 ∷
    Return (Number 2) ∷ []

unfoldable pub utf8_next : Function
utf8_next = record { name = codes "utf8_next"; params = number v.state ∷ number v.byte ∷ []; body = next_body }

abbrev pub valid_turn : List Stmt
valid_turn =
    let_number v.byte (Load v.text (Var v.at)) ∷
    Assign v.state (FromCall (codes "utf8_next") (Var v.state ∷ Var v.byte ∷ [])) ∷
    state_where Eq 8 0 ∷ []

abbrev pub valid_end : List Stmt
valid_end = state_where Eq 0 1 ∷ Return (Number 0) ∷ []

abbrev pub valid_turns : Stmt
valid_turns = For v.at v.len valid_turn

abbrev pub valid_body : List Stmt
valid_body = let_number v.state (Number 0) ∷ valid_turns ∷ valid_end

unfoldable pub utf8_valid : Function
utf8_valid = record {
  name = codes "utf8_valid";
  params = pointer v.text ∷ number v.len ∷ [];
  body = valid_body;
}

abbrev pub utf8_functions : List CItem
utf8_functions = AFunction utf8_begin ∷ AFunction utf8_next ∷ AFunction utf8_valid ∷ []

abbrev pub utf8_names : List Name
utf8_names = codes "utf8_begin" ∷ codes "utf8_next" ∷ codes "utf8_valid" ∷ []

-- ---- the answers

-- the state behind the first byte of a character
pub record BeginsUtf8 (callee : Callee) : Type 0 where
  pub answers : (byte : ℕ) (m : Memory) → Answers (callee (Num byte ∷ []) m) (λ n. n ≡ begun byte) 19

-- The state behind one more byte, which is not asked for from 8 on.
pub record GoesOnUtf8 (callee : Callee) : Type 0 where
  pub answers : (state byte : ℕ) (m : Memory) → Answers (callee (Num state ∷ Num byte ∷ []) m) (λ n. n ≡ next_state state byte) 22

abbrev pub one_where : Bool → ℕ
one_where true = 1
one_where false = 0

-- 1 where the bytes are UTF-8, else 0
pub record ChecksUtf8 (callee : Callee) : Type 0 where
  pub answers : (block offset len : ℕ) (m : Memory) (bytes : List ℕ) → Window m block offset len bytes →
      Answers (callee (Ptr block offset ∷ Num len ∷ []) m) (λ n. n ≡ one_where (is_utf8 bytes)) (27 * (len + 1))

-- ---- a law

-- From between characters on, state_behind is between characters behind all bytes exactly where they are UTF-8.
abbrev pub StatesTell : Type 0
StatesTell = (bytes : List ℕ) → (state_behind 0 bytes ≡ 0) ↔ (is_utf8 bytes ≡ true)
