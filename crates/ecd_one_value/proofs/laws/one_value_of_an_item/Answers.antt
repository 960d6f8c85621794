use Rattle.ecd_one_value.proofs.OneValue.{has_one_value}
use Rattle.ecd_one_value.proofs.laws.one_value_of_an_item.Goals as goal

pub returns : goal.returns
returns c = has_one_value
