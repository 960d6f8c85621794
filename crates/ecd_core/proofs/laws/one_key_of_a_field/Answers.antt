use Rattle.ecd_core.proofs.Keys.{has_one_key}
use Rattle.ecd_core.proofs.laws.one_key_of_a_field.Goals as goal

pub returns : goal.returns
returns c = has_one_key
