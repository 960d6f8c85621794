-- What contracts see of values and reasons.
use Rattle.std.specs.Prelude.{ℕ, Result, Ok, Err}
use Rattle.ecd_cast.specs.declared.value.Value.{Value}
use Rattle.ecd_cast.specs.Expressions.{Outcome, Gives, Fails}
use Rattle.ecd_ceval.specs.declared.reason.Reason.{Reason}
use Rattle.ecd_ceval.specs.declared.reason.Reason.TheVariants.{Rule, Read, Write, Move, Shift, Unset}

-- the number of a reason in the table of reasons
abbrev pub number_of : Reason → ℕ
number_of Rule = 0
number_of Read = 1
number_of Write = 2
number_of Move = 3
number_of Shift = 4
number_of Unset = 5

abbrev pub outcome : Result Value Reason → Outcome
outcome (Ok v) = Gives v
outcome (Err r) = Fails (number_of r)
