-- The function that compares bytes: its tree, and what it answers.
use Rattle.std.specs.Prelude.{ℕ, ◌+◌, ◌*◌, min, ◌≡◌, List, [], ◌∷◌, ◌++◌, codes}
use Rattle.std.specs.declared.cmp.Ordering.{Ordering}
use Rattle.std.specs.declared.cmp.Ordering.TheVariants.{Less, Equal, Greater}
use Rattle.ecd_cast.specs.declared.tree.Op.TheVariants.{Eq, Lt, Gt}
use Rattle.ecd_cast.specs.declared.tree.Expr.{Expr}
use Rattle.ecd_cast.specs.declared.tree.Expr.TheVariants.{Number, Var, Load}
use Rattle.ecd_cast.specs.declared.tree.Stmt.{Stmt}
use Rattle.ecd_cast.specs.declared.tree.Stmt.TheVariants.{For, Return}
use Rattle.ecd_cast.specs.declared.tree.Function.{Function}
use Rattle.ecd_cast.specs.declared.value.Value.TheVariants.{Number as Num, Bytes as Ptr}
use Rattle.ecd_cast.specs.Memory.{Memory}
use Rattle.ecd_calculus.specs.Ends.{Answers}
use Rattle.ecd_keyorder.specs.declared.Order.{Order}
use Rattle.ecd_keyorder.specs.declared.Order.TheVariants.{Bytewise, LengthFirst}
use Rattle.ecd_keyorder.specs.Order.{comparison}
use Rattle.ecd_emit.specs.Shorthands.{number, pointer, guard}
use Rattle.ecd_emit.specs.Variables as v
use Rattle.ecd_emit.specs.Windows.{Callee, Window}

-- ---- the tree

-- `(uint64_t)x[at]` of each side
abbrev pub left_byte : Expr
left_byte = Load v.left (Var v.at)

abbrev pub right_byte : Expr
right_byte = Load v.right (Var v.at)

-- a turn: 2 where the right side ends first, then what the two bytes decide
abbrev pub compare_turn : List Stmt
compare_turn =
    guard Eq (Var v.at) (Var v.right_len) (Number 2) ∷
    guard Lt left_byte right_byte (Number 0) ∷
    guard Gt left_byte right_byte (Number 2) ∷ []

-- behind the turns: the left side begins the right one
abbrev pub compare_lengths : List Stmt
compare_lengths = guard Lt (Var v.left_len) (Var v.right_len) (Number 0) ∷ Return (Number 1) ∷ []

-- the turns, and what is behind them
abbrev pub compare_each : List Stmt
compare_each = For v.at v.left_len compare_turn ∷ compare_lengths

-- in front of them in the length-first order: lengths that differ decide
abbrev pub lengths_first : Order → List Stmt
lengths_first Bytewise = []
lengths_first LengthFirst = guard Lt (Var v.left_len) (Var v.right_len) (Number 0) ∷ guard Gt (Var v.left_len) (Var v.right_len) (Number 2) ∷ []

abbrev pub compare_body : Order → List Stmt
compare_body order = lengths_first order ++ compare_each

unfoldable pub compare_bytes : Order → Function
compare_bytes order = record {
  name = codes "compare_bytes";
  params = pointer v.left ∷ number v.left_len ∷ pointer v.right ∷ number v.right_len ∷ [];
  body = compare_body order;
}

-- ---- the answer

-- 0, 1 or 2, as the left side is less, equal or greater
abbrev pub order_number : Ordering → ℕ
order_number Less = 0
order_number Equal = 1
order_number Greater = 2

-- How the bytes stand to each other in the order. It takes at most seven steps for each byte of the shorter side, and seven more.
pub record ComparesBytes (order : Order) (callee : Callee) : Type 0 where
  pub answers : (block offset len other other_offset other_len : ℕ) (m : Memory) (left right : List ℕ) → Window m block offset len left → Window m other other_offset other_len right →
      Answers (callee (Ptr block offset ∷ Num len ∷ Ptr other other_offset ∷ Num other_len ∷ []) m) (λ n. n ≡ order_number (comparison order left right)) (7 * (min len other_len + 1))
