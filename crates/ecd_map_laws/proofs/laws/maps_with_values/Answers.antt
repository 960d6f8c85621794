use Rattle.ecd_map_laws.proofs.Choosing.{number_is_one, one_more_counts}
use Rattle.ecd_map_laws.proofs.Existence.{has_values}
use Rattle.ecd_map_laws.proofs.laws.maps_with_values.Goals as goal

pub returns : goal.returns
returns c = record { values = has_values; one = number_is_one; more = one_more_counts }
