use Rattle.ecd_first.specs.Firsts.{offset, Sees, AnyBelow}
use Rattle.ecd_names.specs.Parameters.{RepeatedAt}
use Rattle.ecd_names.proofs.parameters.judge_parameters.Given as goal

abbrev pub invariant-loop-number : goal.invariant-loop-number
invariant-loop-number l = Sees offset l.initial.first.broken l.first.broken (AnyBelow (RepeatedAt l.params) l.number)
