use Rattle.std.proofs.Common.{◌≡◌, ◌++◌}
use Rattle.ecd_rt.specs.Trees.{any_functions}
use Rattle.ecd_rt.proofs.any.any_chain.Given as goal

abbrev pub invariant-loop-below : goal.invariant-loop-below
invariant-loop-below l = l.builder ≡ l.fn.builder ++ any_functions l.below
