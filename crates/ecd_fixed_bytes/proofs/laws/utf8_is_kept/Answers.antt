use Rattle.ecd_fixed_bytes.proofs.Kept.{utf8_is_kept}
use Rattle.ecd_fixed_bytes.proofs.laws.utf8_is_kept.Goals as goal

pub returns : goal.returns
returns c = utf8_is_kept
