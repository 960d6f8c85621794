-- What a store and an assignment to a cell write.
use Rattle.std.specs.Prelude.{ℕ, Result, Ok, Err}
use Rattle.ecd_cast.specs.declared.tree.Expr.{Expr}
use Rattle.ecd_cast.specs.declared.value.Value.{Value}
use Rattle.ecd_cast.specs.declared.value.Value.TheVariants.{Number as Num, Bytes as Ptr, Struct as Str}
use Rattle.ecd_cast.specs.declared.value.Cell.{Cell}
use Rattle.ecd_cast.specs.declared.value.Cell.TheVariants.{Number as HoldsNumber, Bytes as HoldsPointer}
use Rattle.ecd_cast.specs.Memory.{Name, Memory, Event}
use Rattle.ecd_cast.specs.Expressions.{Outcome, Gives, Fails, Scopes, lookup, given, value_of}
use Rattle.ecd_ceval.specs.declared.reason.Reason.{Reason}
use Rattle.ecd_ceval.specs.Outcomes.{number_of}
use Rattle.ecd_ceval.specs.Writes.{stored}

-- goes on with the value, where there is one
abbrev pub or_reason : {A : Type 0} → Outcome → (Value → Result A ℕ) → Result A ℕ
or_reason (Gives v) f = f v
or_reason (Fails r) f = Err r

-- the byte that a store writes, or the reason that there is none
abbrev pub byte_stored : Name → Expr → Expr → Scopes → Memory → Result Event ℕ
byte_stored x i e env m = or_reason (given (lookup env x)) (λ q. or_reason (value_of i env m) (λ j. or_reason (value_of e env m) (λ v. stored m q j v)))

-- the block and the cell of an assignment to a cell
abbrev pub cell_for : Value → Value → Result (ℕ × Cell) ℕ
cell_for (Str block) (Num n) = Ok (block, HoldsNumber n)
cell_for (Str block) (Ptr b o) = Ok (block, HoldsPointer b o)
cell_for _ _ = Err 0

abbrev pub cell_stored : Name → Expr → Scopes → Memory → Result (ℕ × Cell) ℕ
cell_stored x e env m = or_reason (given (lookup env x)) (λ q. or_reason (value_of e env m) (λ v. cell_for q v))

abbrev pub cell_outcome : Result (ℕ × Cell) Reason → Result (ℕ × Cell) ℕ
cell_outcome (Ok w) = Ok w
cell_outcome (Err r) = Err (number_of r)
