use Rattle.ecd_apart.proofs.ApartLaw.{apart_share_none}
use Rattle.ecd_apart.proofs.laws.apart_shapes_share_no_item.Goals as goal

pub returns : goal.returns
returns c = apart_share_none
