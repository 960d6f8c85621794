use Rattle.ecd_fixed_heads.proofs.Extended.{extents_are_kept}
use Rattle.ecd_fixed_heads.proofs.laws.extents_are_kept.Goals as goal

pub returns : goal.returns
returns c = extents_are_kept
