use Rattle.std.proofs.Common.{arith}
use Rattle.ecd_vectors.proofs.Judging.{as_many}
use Rattle.ecd_vectors.proofs.report.check_cases.Goals as goal

pub passed-requires : goal.passed-requires
passed-requires c = rw c.as_slice.ensures.value (omega (arith, as_many c.args.cases.now c.in_ok-verdicts.verdicts.items c.in_ok-verdicts.ensures, c.requires))

pub first_failed-requires : goal.first_failed-requires
first_failed-requires c = rw c.as_slice-2.ensures.value (omega (arith, as_many c.args.cases.now c.in_ok-verdicts.verdicts.items c.in_ok-verdicts.ensures, c.requires))
