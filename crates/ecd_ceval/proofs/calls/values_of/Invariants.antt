use Rattle.std.proofs.Common.{◌≡◌, map, take}
use Rattle.ecd_ceval.specs.Machines.{value_of_arg}
use Rattle.ecd_ceval.proofs.calls.values_of.Given as goal

abbrev pub invariant-loop-arg : goal.invariant-loop-arg
invariant-loop-arg l = l.values ≡ map value_of_arg (take l.arg-index l.args)
