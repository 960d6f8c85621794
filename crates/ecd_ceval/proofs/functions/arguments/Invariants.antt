use Rattle.std.proofs.Common.{◌≡◌, List, [], drop}
use Rattle.ecd_cast.specs.declared.value.Value.{Value}
use Rattle.ecd_cast.specs.Meaning.{Place, Run, with_args}
use Rattle.ecd_ceval.specs.Blocks.{memory_of}
use Rattle.ecd_ceval.proofs.functions.arguments.Given as goal

abbrev pub invariant-loop-arg : goal.invariant-loop-arg
invariant-loop-arg l =
    (p : Place) (f : List Value → Run) → with_args p l.args l.variables (memory_of l.blocks) [] f ≡ with_args p (drop l.arg-index l.args) l.variables (memory_of l.blocks) l.values f
