use Rattle.ecd_fixed_bytes.proofs.Kept.{copier_is_kept}
use Rattle.ecd_fixed_bytes.proofs.laws.copier_is_kept.Goals as goal

pub returns : goal.returns
returns c = copier_is_kept
