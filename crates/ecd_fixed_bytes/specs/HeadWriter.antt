-- The functions that write heads: their trees, and what they do.
use Rattle.std.specs.Prelude.{ℕ, ◌+◌, ◌^◌, ◌<◌, ◌≡◌, List, [], ◌∷◌, ◌++◌, codes, length}
use Rattle.std.specs.Int.{Width, byte_len, to_be_bytes}
use Rattle.ecd_cast.specs.declared.tree.Op.TheVariants.{Add, Shl, Shr, Lt}
use Rattle.ecd_cast.specs.declared.tree.Expr.{Expr}
use Rattle.ecd_cast.specs.declared.tree.Expr.TheVariants.{Number, Var, Binary}
use Rattle.ecd_cast.specs.declared.tree.Stmt.{Stmt}
use Rattle.ecd_cast.specs.declared.tree.Stmt.TheVariants.{Store, If, Return}
use Rattle.ecd_cast.specs.declared.tree.Param.{Param}
use Rattle.ecd_cast.specs.declared.tree.Function.{Function}
use Rattle.ecd_cast.specs.declared.tree.CItem.{CItem}
use Rattle.ecd_cast.specs.declared.tree.CItem.TheVariants.{Function as AFunction}
use Rattle.ecd_cast.specs.declared.value.Value.TheVariants.{Number as Num, Bytes as Ptr}
use Rattle.ecd_cast.specs.Memory.{Name, Memory}
use Rattle.ecd_calculus.specs.Ends.{Answers, Does}
use Rattle.ecd_head.specs.Head.{head_bytes}
use Rattle.ecd_emit.specs.Shorthands.{number, output, plus, let_number, let_call, guard}
use Rattle.ecd_emit.specs.Variables as v
use Rattle.ecd_emit.specs.Windows.{Callee}
use Rattle.ecd_emit.specs.Writes.{Room, puts, storing}

-- ---- the length of a head

-- `if (argument < bound) { return answer; } else { }`
abbrev pub length_where : (bound answer : ℕ) → Stmt
length_where bound answer = guard Lt (Var v.argument) (Number bound) (Number answer)

abbrev pub length_body : List Stmt
length_body = length_where 24 1 ∷ length_where 256 2 ∷ length_where 65536 3 ∷ length_where 4294967296 5 ∷ Return (Number 9) ∷ []

unfoldable pub head_length : Function
head_length = record { name = codes "head_length"; params = number v.argument ∷ []; body = length_body }

-- ---- big-endian numbers

-- (uint8_t *out, uint64_t at, uint64_t number)
abbrev pub store_params : List Param
store_params = output v.out ∷ number v.at ∷ number v.number ∷ []

-- `(number >> bits)`
abbrev pub upper : ℕ → Expr
upper bits = Binary Shr (Var v.number) (Number bits)

unfoldable pub store_be16 : Function
store_be16 = record {
  name = codes "store_be16";
  params = store_params;
  body = Store v.out (Var v.at) (upper 8) ∷ Store v.out (plus v.at 1) (Var v.number) ∷ Return (plus v.at 2) ∷ [];
}

-- a number in two halves of so many bits, which a function stores
abbrev pub store_halves : Name → (bits : ℕ) → List Stmt
store_halves g bits =
    let_call v.middle g (Var v.out ∷ Var v.at ∷ upper bits ∷ []) ∷
    let_call v.end g (Var v.out ∷ Var v.middle ∷ Var v.number ∷ []) ∷
    Return (Var v.end) ∷ []

unfoldable pub store_be32 : Function
store_be32 = record { name = codes "store_be32"; params = store_params; body = store_halves (codes "store_be16") 16 }

unfoldable pub store_be64 : Function
store_be64 = record { name = codes "store_be64"; params = store_params; body = store_halves (codes "store_be32") 32 }

-- ---- heads

-- `out[at] = (uint8_t)(high + low);`
abbrev pub put_first : Expr → Stmt
put_first low = Store v.out (Var v.at) (Binary Add (Var v.high) low)

-- the argument in the first byte
abbrev pub put_1 : List Stmt
put_1 = put_first (Var v.argument) ∷ Return (plus v.at 1) ∷ []

-- in the next byte
abbrev pub put_2 : List Stmt
put_2 = put_first (Number 24) ∷ Store v.out (plus v.at 1) (Var v.argument) ∷ Return (plus v.at 2) ∷ []

-- in several bytes, which a function stores
abbrev pub put_wide : ℕ → Name → Name → List Stmt
put_wide info x g =
    put_first (Number info) ∷
    let_call x g (Var v.out ∷ plus v.at 1 ∷ Var v.argument ∷ []) ∷
    Return (Var x) ∷ []

-- `if (argument < bound) { ys } else { }`
abbrev pub put_where : ℕ → List Stmt → Stmt
put_where bound ys = If (Binary Lt (Var v.argument) (Number bound)) ys []

-- `uint64_t high = (major << 5ull);`
abbrev pub let_high : Stmt
let_high = let_number v.high (Binary Shl (Var v.major) (Number 5))

-- the shorter heads
abbrev pub put_cases : List Stmt
put_cases =
    let_high ∷
    put_where 24 put_1 ∷
    put_where 256 put_2 ∷
    put_where 65536 (put_wide 25 v.end16 (codes "store_be16")) ∷
    put_where 4294967296 (put_wide 26 v.end32 (codes "store_be32")) ∷ []

abbrev pub put_body : List Stmt
put_body = put_cases ++ put_wide 27 v.end64 (codes "store_be64")

unfoldable pub put_head : Function
put_head = record {
  name = codes "put_head";
  params = output v.out ∷ number v.at ∷ number v.major ∷ number v.argument ∷ [];
  body = put_body;
}

-- ---- all of them, in their order

abbrev pub put_functions : List CItem
put_functions = AFunction head_length ∷ AFunction store_be16 ∷ AFunction store_be32 ∷ AFunction store_be64 ∷ AFunction put_head ∷ []

abbrev pub put_names : List Name
put_names = codes "head_length" ∷ codes "store_be16" ∷ codes "store_be32" ∷ codes "store_be64" ∷ codes "put_head" ∷ []

-- ---- what they do

-- how many bytes the shortest head with an argument has, of any major type
pub record HeadLength (callee : Callee) : Type 0 where
  pub answers : (major argument : ℕ) (m : Memory) → Answers (callee (Num argument ∷ []) m) (λ n. n ≡ length (head_bytes major argument)) 9

-- The low bytes of a number, the highest of them first, and nothing else. The answer is the place behind them.
pub record StoresNumber (w : Width) (most : ℕ) (callee : Callee) : Type 0 where
  pub writes : (block offset at n : ℕ) (m : Memory) → Room m block offset at (byte_len w) →
      Does (callee (storing block offset at n) m) (at + byte_len w) (puts block (offset + at) (to_be_bytes w n)) most

-- The bytes of the shortest head, and nothing else. The answer is the place behind them.
pub record WritesHead (callee : Callee) : Type 0 where
  pub writes : (block offset at major argument : ℕ) (m : Memory) → major < 8 → argument < 2 ^ 64 → Room m block offset at (length (head_bytes major argument)) →
      Does (callee (Ptr block offset ∷ Num at ∷ Num major ∷ Num argument ∷ []) m) (at + length (head_bytes major argument)) (puts block (offset + at) (head_bytes major argument)) 29
