use Rattle.ecd_map_laws.proofs.Owners.{owner_is_table}
use Rattle.ecd_map_laws.proofs.Tables.{key_has_one_table, merge_in_one_way, pair_has_one_table}
use Rattle.ecd_map_laws.proofs.laws.pairs_by_tables.Goals as goal

pub returns : goal.returns
returns c = record { pair = pair_has_one_table; key = key_has_one_table; owner = owner_is_table; merge = merge_in_one_way }
