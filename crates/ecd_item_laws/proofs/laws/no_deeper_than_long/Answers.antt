use Rattle.ecd_item_laws.proofs.Shallow.{shallow}
use Rattle.ecd_item_laws.proofs.laws.no_deeper_than_long.Goals as goal

pub returns : goal.returns
returns c = shallow
