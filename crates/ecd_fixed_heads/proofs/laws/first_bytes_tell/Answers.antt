use Rattle.ecd_fixed_heads.proofs.FirstHeads.{first_bytes_tell}
use Rattle.ecd_fixed_heads.proofs.laws.first_bytes_tell.Goals as goal

pub returns : goal.returns
returns c = first_bytes_tell
