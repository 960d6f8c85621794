use Rattle.std.proofs.Common.{◌≡◌, ◌<◌, ℕ, true, false, get_or, length, ◌∙◌, ap, arith}
use Rattle.std.proofs.lemmas.List.{get_or_default}
use Rattle.ecd_vectors.proofs.report.first_failed.Goals as goal

pub returns-then-not-verdict : goal.returns-then-not-verdict
returns-then-not-verdict c =
    let same : c.loop-verdict.at ≡ c.loop-verdict.verdict-index = c.loop-verdict.invariant.same in
    let lt : c.loop-verdict.at < length c.args.verdicts.now = omega (arith, same, c.loop-verdict-test.true) in
    (lt, get_or_default c.args.verdicts.now c.loop-verdict.at true false lt ∙ (ap (λ (i : ℕ). get_or c.args.verdicts.now i false) same ∙ c.if-not-verdict.true), c.loop-verdict.invariant.passed)
