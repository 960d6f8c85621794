use Rattle.ecd_fixed_heads.proofs.Stands.{heads_are_read}
use Rattle.ecd_fixed_heads.proofs.laws.heads_are_read.Goals as goal

pub returns : goal.returns
returns c = heads_are_read
