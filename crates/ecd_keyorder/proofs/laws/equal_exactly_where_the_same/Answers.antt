use Rattle.ecd_keyorder.proofs.Total.{equal_is_same}
use Rattle.ecd_keyorder.proofs.laws.equal_exactly_where_the_same.Goals as goal

pub returns : goal.returns
returns c = equal_is_same
