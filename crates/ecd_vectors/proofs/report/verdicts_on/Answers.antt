use Rattle.ecd_vectors.proofs.Judging.{grown, whole}
use Rattle.ecd_vectors.proofs.report.verdicts_on.Goals as goal
use Rattle.std.proofs.lemmas.List.{get_or_default}

pub loop-case-init : goal.loop-case-init
loop-case-init c = rw c.new-verdicts.ensures.items tt

pub loop-case-preserved : goal.loop-case-preserved
loop-case-preserved c = grown c.args.cases.now c.loop-case.verdicts.items c.push.new.self.items c.loop-case.case-index _ c.in_ok-verdict.verdict c.loop-case-test.true (get_or_default _ _ _ _ c.loop-case-test.true) c.loop-case.invariant c.in_ok-verdict.ensures c.in_ok-push.ensures.items

pub returns : goal.returns
returns c = whole c.args.cases.now c.loop-case.verdicts.items c.loop-case.case-index c.loop-case-test.false c.loop-case.invariant
