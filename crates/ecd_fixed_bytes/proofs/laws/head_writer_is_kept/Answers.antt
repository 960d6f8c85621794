use Rattle.ecd_fixed_bytes.proofs.Kept.{head_writer_is_kept}
use Rattle.ecd_fixed_bytes.proofs.laws.head_writer_is_kept.Goals as goal

pub returns : goal.returns
returns c = head_writer_is_kept
