use Rattle.std.proofs.Common.{◌≡◌, ℕ, List, take}
use Rattle.ecd_bodies.specs.Named.{parameter_number}
use Rattle.ecd_names.specs.Parameters.{under}
use Rattle.ecd_names.proofs.parameters.Parameters.of.Given as goal

abbrev pub invariant-loop-number : goal.invariant-loop-number
invariant-loop-number l = (name : List ℕ) → under l.firsts name ≡ parameter_number (take l.number l.params) name
