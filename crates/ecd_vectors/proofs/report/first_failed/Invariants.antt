use Rattle.std.proofs.Common.{◌≡◌, ◌<◌, ℕ, true, false, get_or}
use Rattle.ecd_vectors.proofs.report.first_failed.Given as goal

abbrev pub invariant-loop-verdict : goal.invariant-loop-verdict
invariant-loop-verdict l = record {
  same : l.at ≡ l.verdict-index;
  passed : (i : ℕ) → i < l.at → get_or l.verdicts i false ≡ true;
}
