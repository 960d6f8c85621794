use Rattle.ecd_core.proofs.Owning.{given_out, owners_exist, field_owns, pick_owns, table_owns}
use Rattle.ecd_core.proofs.laws.maps_by_owners.Goals as goal

pub returns : goal.returns
returns c = record { given_out = given_out; owners_exist = owners_exist; field = field_owns; pick = pick_owns; table = table_owns }
