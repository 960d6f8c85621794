use Rattle.ecd_cast.proofs.Kept.{item_kept}
use Rattle.ecd_cast.proofs.laws.items_behind.Goals as goal

pub returns : goal.returns
returns c = record { validity = item_kept }
