use Rattle.std.proofs.Common.{◌≡◌, ◌≤◌, List, length, take}
use Rattle.ecd_cast.specs.declared.value.Value.{Value}
use Rattle.ecd_cast.specs.Memory.{Memory}
use Rattle.ecd_cast.specs.Meaning.{calls_of}
use Rattle.ecd_ceval.proofs.functions.find.Given as goal

abbrev pub invariant-loop-at : goal.invariant-loop-at
invariant-loop-at l =
    (l.at ≤ length l.items) × (l.at ≤ l.before) × ((vs : List Value) (m : Memory) → calls_of (take l.before l.items) l.name vs m ≡ calls_of (take l.at l.items) l.name vs m)

abbrev pub decreases-loop-at : goal.decreases-loop-at
decreases-loop-at l = l.at
