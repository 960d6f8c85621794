use Rattle.ecd_first.specs.Firsts.{offset, Sees, AnyBelow}
use Rattle.ecd_names.specs.Names.{BreaksAt}
use Rattle.ecd_names.proofs.judge.judge_rules.Given as goal

abbrev pub invariant-loop-index : goal.invariant-loop-index
invariant-loop-index l = Sees offset l.initial.first.broken l.first.broken (AnyBelow (BreaksAt l.table) l.index)
