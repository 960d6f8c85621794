use Rattle.ecd_core.proofs.OneItem.{has_one_item}
use Rattle.ecd_core.proofs.laws.one_item_of_a_value.Goals as goal

pub returns : goal.returns
returns c = has_one_item
