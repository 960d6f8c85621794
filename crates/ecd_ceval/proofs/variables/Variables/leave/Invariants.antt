use Rattle.std.proofs.Common.{◌≡◌, length}
use Rattle.ecd_cast.specs.Meaning.{leave}
use Rattle.ecd_ceval.specs.Scopes.{scopes_of}
use Rattle.ecd_ceval.proofs.variables.Variables.leave.Given as goal

abbrev pub invariant-loop-slot : goal.invariant-loop-slot
invariant-loop-slot l = leave (scopes_of l.initial.self-inside.slots.items) ≡ leave (scopes_of l.self-inside.slots.items)

abbrev pub decreases-loop-slot : goal.decreases-loop-slot
decreases-loop-slot l = length l.self-inside.slots.items
