-- Operators by what their left operand leaves open.
use Rattle.std.specs.Prelude.{◌≡◌, Option, Some, None, Result}
use Rattle.ecd_cast.specs.declared.tree.Op.{Op}
use Rattle.ecd_cast.specs.declared.tree.Op.TheVariants.{And, Or}
use Rattle.ecd_cast.specs.declared.value.Value.{Value}
use Rattle.ecd_cast.specs.Memory.{Memory}
use Rattle.ecd_cast.specs.Expressions.{Outcome, Gives, with_value, binary, applied, must_be_truth}
use Rattle.ecd_ceval.specs.declared.reason.Reason.{Reason}
use Rattle.ecd_ceval.specs.Outcomes.{outcome}

-- the value, where the right operand counts
abbrev pub finished : Memory → Op → Value → Value → Outcome
finished m And left right = must_be_truth right
finished m Or left right = must_be_truth right
finished m op left right = applied m op left right

-- the left operand decides the value, or leaves it to the right one
abbrev pub IsDecided : Option (Result Value Reason) → Op → Value → Type 0
IsDecided (Some o) op left = (m : Memory) (right : Unit {0} → Outcome) → binary m op (Gives left) right ≡ outcome o
IsDecided None op left = (m : Memory) (right : Unit {0} → Outcome) → binary m op (Gives left) right ≡ with_value (right tt) (finished m op left)
