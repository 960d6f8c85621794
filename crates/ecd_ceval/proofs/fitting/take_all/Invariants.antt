use Rattle.std.proofs.Common.{◌≡◌, length, map}
use Rattle.ecd_cast.specs.Validity.{structs_of}
use Rattle.ecd_cast.specs.Fitting.{params_take}
use Rattle.ecd_ceval.specs.Blocks.{memory_of, kind_of}
use Rattle.ecd_ceval.specs.Machines.{value_of_arg}
use Rattle.ecd_ceval.proofs.fitting.take_all.Given as goal

abbrev pub invariant-loop-params : goal.invariant-loop-params
invariant-loop-params l =
    params_take (structs_of l.items) (map kind_of l.blocks) (memory_of l.blocks) l.fn.params (map value_of_arg l.fn.args) ≡ params_take (structs_of l.items) (map kind_of l.blocks) (memory_of l.blocks) l.params (map value_of_arg l.args)

abbrev pub decreases-loop-params : goal.decreases-loop-params
decreases-loop-params l = length l.params
