use Rattle.ecd_fixed_heads.proofs.Kept.{heads_are_kept}
use Rattle.ecd_fixed_heads.proofs.laws.heads_are_kept.Goals as goal

pub returns : goal.returns
returns c = heads_are_kept
