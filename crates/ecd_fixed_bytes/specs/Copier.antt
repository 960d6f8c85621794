-- The function that copies bytes: its tree, and what it does.
use Rattle.std.specs.Prelude.{ℕ, ◌+◌, ◌*◌, ◌≢◌, List, [], ◌∷◌, codes}
use Rattle.ecd_cast.specs.declared.tree.Op.TheVariants.{Add}
use Rattle.ecd_cast.specs.declared.tree.Expr.TheVariants.{Var, Load, Binary}
use Rattle.ecd_cast.specs.declared.tree.Stmt.{Stmt}
use Rattle.ecd_cast.specs.declared.tree.Stmt.TheVariants.{Store, For, Return}
use Rattle.ecd_cast.specs.declared.tree.Function.{Function}
use Rattle.ecd_cast.specs.declared.value.Value.TheVariants.{Number as Num, Bytes as Ptr}
use Rattle.ecd_cast.specs.Memory.{Memory}
use Rattle.ecd_calculus.specs.Ends.{Does}
use Rattle.ecd_emit.specs.Shorthands.{number, pointer, output}
use Rattle.ecd_emit.specs.Variables as v
use Rattle.ecd_emit.specs.Windows.{Callee, Window}
use Rattle.ecd_emit.specs.Writes.{Room, puts}

-- `out[(at + i)] = (uint8_t)(uint64_t)from[i];`
abbrev pub copy_turn : List Stmt
copy_turn = Store v.out (Binary Add (Var v.at) (Var v.i)) (Load v.from (Var v.i)) ∷ []

abbrev pub copy_turns : Stmt
copy_turns = For v.i v.count copy_turn

abbrev pub copy_body : List Stmt
copy_body = copy_turns ∷ Return (Binary Add (Var v.at) (Var v.count)) ∷ []

unfoldable pub copy_bytes : Function
copy_bytes = record {
  name = codes "copy_bytes";
  params = output v.out ∷ number v.at ∷ pointer v.from ∷ number v.count ∷ [];
  body = copy_body;
}

-- The bytes of a window, to another block, and nothing else. The answer is the place behind them.
pub record CopiesBytes (callee : Callee) : Type 0 where
  pub writes : (block offset at other other_offset count : ℕ) (m : Memory) (bytes : List ℕ) → other ≢ block → Window m other other_offset count bytes → Room m block offset at count →
      Does (callee (Ptr block offset ∷ Num at ∷ Ptr other other_offset ∷ Num count ∷ []) m) (at + count) (puts block (offset + at) bytes) (2 * (count + 1))
