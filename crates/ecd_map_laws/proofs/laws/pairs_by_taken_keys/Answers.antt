use Rattle.ecd_map_laws.proofs.Taken.{taken_by_key, taken_is_there}
use Rattle.ecd_map_laws.proofs.laws.pairs_by_taken_keys.Goals as goal

pub returns : goal.returns
returns c = record { by_key = taken_by_key; there = taken_is_there }
