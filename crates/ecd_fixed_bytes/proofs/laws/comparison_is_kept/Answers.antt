use Rattle.ecd_fixed_bytes.proofs.Kept.{comparison_is_kept}
use Rattle.ecd_fixed_bytes.proofs.laws.comparison_is_kept.Goals as goal

pub returns : goal.returns
returns c = comparison_is_kept
