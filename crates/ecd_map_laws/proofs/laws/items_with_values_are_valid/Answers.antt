use Rattle.ecd_map_laws.proofs.Valid.{valued_is_valid}
use Rattle.ecd_map_laws.proofs.laws.items_with_values_are_valid.Goals as goal

pub returns : goal.returns
returns c = valued_is_valid
