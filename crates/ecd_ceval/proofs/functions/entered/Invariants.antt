use Rattle.std.proofs.Common.{◌≡◌, ◌≤◌, length, drop, [], ◌∷◌}
use Rattle.ecd_cast.specs.Meaning.{frame_of}
use Rattle.ecd_ceval.proofs.functions.entered.Given as goal

abbrev pub invariant-loop-at : goal.invariant-loop-at
invariant-loop-at l = (l.at ≤ length l.params) × (l.at ≤ length l.values) × (l.variables ≡ frame_of (drop l.at l.params) (drop l.at l.values) ∷ [])

abbrev pub decreases-loop-at : goal.decreases-loop-at
decreases-loop-at l = l.at
