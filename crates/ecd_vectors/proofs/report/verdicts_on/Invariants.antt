use Rattle.std.proofs.Common.{take}
use Rattle.ecd_vectors.specs.Passing.{AreVerdicts}
use Rattle.ecd_vectors.proofs.report.verdicts_on.Given as goal

abbrev pub invariant-loop-case : goal.invariant-loop-case
invariant-loop-case l = AreVerdicts (take l.case-index l.cases) l.verdicts.items
