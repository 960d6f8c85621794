use Rattle.std.proofs.Common.{◌≤◌, length, drop}
use Rattle.ecd_ceval.specs.Scopes.{IsFree}
use Rattle.ecd_ceval.proofs.variables.last_of.Given as goal

abbrev pub invariant-loop-at : goal.invariant-loop-at
invariant-loop-at l = (l.at ≤ length l.slots) × IsFree l.name (drop l.at l.slots)

abbrev pub decreases-loop-at : goal.decreases-loop-at
decreases-loop-at l = l.at
