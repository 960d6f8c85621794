-- The functions that find the end of an item, as trees, and what they answer.
use Rattle.std.specs.Prelude.{ℕ, ◌+◌, ◌-◌, ◌*◌, ◌^◌, ◌<◌, ◌≤◌, ◌≡◌, List, [], ◌∷◌, ◌++◌, codes, drop, nat_lt, ◌==◌, if◌then◌else◌, Result, Ok, Err}
use Rattle.ecd_cast.specs.declared.tree.Op.TheVariants.{Add, Sub, Eq, Lt, Gt}
use Rattle.ecd_cast.specs.declared.tree.Expr.TheVariants.{Number, Var, Binary}
use Rattle.ecd_cast.specs.declared.tree.Stmt.{Stmt}
use Rattle.ecd_cast.specs.declared.tree.Stmt.TheVariants.{For, Return}
use Rattle.ecd_cast.specs.declared.tree.Function.{Function}
use Rattle.ecd_cast.specs.declared.tree.CItem.{CItem}
use Rattle.ecd_cast.specs.declared.tree.CItem.TheVariants.{Function as AFunction}
use Rattle.ecd_cast.specs.Memory.{Name, Memory}
use Rattle.ecd_cast.specs.Meaning.{Run}
use Rattle.ecd_calculus.specs.Ends.{Answers, Does}
use Rattle.ecd_head.specs.declared.HeadFault.{HeadFault}
use Rattle.ecd_head.specs.declared.Head.{Head}
use Rattle.ecd_head.specs.Fault.{head_at}
use Rattle.ecd_emit.specs.Shorthands.{number, pointer, let_number, let_call, guard}
use Rattle.ecd_emit.specs.Variables as v
use Rattle.ecd_emit.specs.Shorthands.{none_where}
use Rattle.ecd_emit.specs.Windows.{Callee, Window, IsEnd, placed, asked}
use Rattle.ecd_fixed_heads.specs.Framed.{ItemStands}
use Rattle.ecd_emit.specs.Shorthands.{assign, let_argument, let_major, of_two}

-- ---- an item without the items inside it

-- the head: its end, and its major type
abbrev pub own_head : List Stmt
own_head =
    let_call v.end (codes "head_end") (Var v.buf ∷ Var v.len ∷ Var v.at ∷ []) ∷
    none_where Eq (Var v.end) (Number 0) ∷
    let_major ∷
    guard Lt (Var v.major) (Number 2) (Var v.end) ∷
    guard Gt (Var v.major) (Number 5) (Var v.end) ∷ []

abbrev pub own_body : List Stmt
own_body =
    own_head ++
    let_argument ∷
    none_where Lt (of_two Sub v.len v.end) (Var v.argument) ∷
    guard Gt (Var v.major) (Number 3) (Var v.end) ∷
    Return (of_two Add v.end v.argument) ∷ []

unfoldable pub own_end : Function
own_end = record { name = codes "own_end"; params = pointer v.buf ∷ number v.len ∷ number v.at ∷ []; body = own_body }

abbrev pub inside_body : List Stmt
inside_body =
    let_major ∷
    none_where Lt (Var v.major) (Number 4) ∷
    none_where Gt (Var v.major) (Number 6) ∷
    guard Eq (Var v.major) (Number 6) (Number 1) ∷
    let_argument ∷
    guard Eq (Var v.major) (Number 4) (Var v.argument) ∷
    Return (of_two Add v.argument v.argument) ∷ []

unfoldable pub items_inside : Function
items_inside = record { name = codes "items_inside"; params = pointer v.buf ∷ number v.at ∷ []; body = inside_body }

-- ---- a whole item

-- `uint64_t inside = items_inside(buf, end);`
abbrev pub let_inside : Stmt
let_inside = let_call v.inside (codes "items_inside") (Var v.buf ∷ Var v.end ∷ [])

-- `owed = ((owed - 1ull) + inside);`
abbrev pub owe_inside : Stmt
owe_inside = assign v.owed (Binary Add (Binary Sub (Var v.owed) (Number 1)) (Var v.inside))

-- a turn: one more item is met, and the items inside it are owed from then on
abbrev pub item_turn : List Stmt
item_turn =
    let_call v.next (codes "own_end") (Var v.buf ∷ Var v.len ∷ Var v.end ∷ []) ∷
    none_where Eq (Var v.next) (Number 0) ∷
    let_inside ∷
    owe_inside ∷
    assign v.end (Var v.next) ∷
    guard Eq (Var v.owed) (Number 0) (Var v.end) ∷
    none_where Lt (of_two Sub v.len v.end) (Var v.owed) ∷ []

abbrev pub item_body : List Stmt
item_body =
    let_number v.end (Var v.at) ∷
    let_number v.owed (Number 1) ∷
    For v.turn v.len item_turn ∷
    Return (Number 0) ∷ []

unfoldable pub item_end : Function
item_end = record { name = codes "item_end"; params = pointer v.buf ∷ number v.len ∷ number v.at ∷ []; body = item_body }

-- ---- all of them, in their order

abbrev pub extent_functions : List CItem
extent_functions = AFunction own_end ∷ AFunction items_inside ∷ AFunction item_end ∷ []

abbrev pub extent_names : List Name
extent_names = codes "own_end" ∷ codes "items_inside" ∷ codes "item_end" ∷ []

-- ---- what a head says of what follows it

-- how many bytes of a string follow: RFC 8949, section 3.1
abbrev pub string_behind : Head → ℕ
string_behind head = if nat_lt head.major 2 then 0 else (if nat_lt 3 head.major then 0 else head.arg)

-- a number of bytes that follow at least: a string has so many, and each item of an array and each pair of a map has one or more
abbrev pub least_behind : Head → ℕ
least_behind head = if nat_lt head.major 2 then 0 else (if nat_lt 5 head.major then 0 else head.arg)

-- how many items stand directly inside: none, those of an array, two for each pair of a map, or the one of a tag
abbrev pub inside : Head → ℕ
inside head =
    if nat_lt head.major 4 then 0
    else (if nat_lt 6 head.major then 0
    else (if head.major == 6 then 1
    else (if head.major == 4 then head.arg else head.arg + head.arg)))

-- ---- the answers

-- the place behind the head that is read at a place and the string behind it, where at least the bytes that the head asks for are there, or 0
abbrev pub own_end_of : (len at : ℕ) → Result (Head × ℕ) HeadFault → ℕ
own_end_of len at (Ok found) = if nat_lt (len - (at + found.1)) (least_behind found.0) then 0 else at + found.1 + string_behind found.0
own_end_of len at (Err fault) = 0

pub record OwnEnd (callee : Callee) : Type 0 where
  pub answers : (block offset len at : ℕ) (m : Memory) (bytes : List ℕ) → Window m block offset len bytes → at ≤ len →
      Answers (callee (asked block offset len at) m) (λ n. n ≡ own_end_of len at (head_at (drop at bytes))) 97

-- the number of items directly inside the one whose head is read at a place, where 64 bits hold it
pub record ItemsInside (callee : Callee) : Type 0 where
  pub answers : (block offset len at size : ℕ) (m : Memory) (bytes : List ℕ) (head : Head) → Window m block offset len bytes → head_at (drop at bytes) ≡ Ok (head, size) → inside head < 2 ^ 64 →
      Answers (callee (placed block offset at) m) (λ n. n ≡ inside head) 33

-- the run returns a number with P, writes nothing, and takes at most the steps that go with that number
pub record AnswersWithin (r : Run) (P : ℕ → Type 0) (most : ℕ → ℕ) : Type 0 where
  pub answer : ℕ
  pub does : Does r answer [] (most answer)
  pub has : P answer

-- how many bytes an answer looks at: those of the item that it found, or all that are there
abbrev pub looked_at : (len at : ℕ) → ℕ → ℕ
looked_at len at n = if n == 0 then len - at else n - at

-- The place behind the item at a place, or 0 where none stands there.
pub record ItemEnd (callee : Callee) : Type 0 where
  pub answers : (block offset len at : ℕ) (m : Memory) (bytes : List ℕ) → Window m block offset len bytes → at ≤ len →
      AnswersWithin (callee (asked block offset len at) m) (IsEnd (ItemStands bytes at)) (λ n. 144 * (looked_at len at n + 1))
