use Rattle.ecd_map_laws.proofs.Counts.{number_is_told, pick_counts, present_counts, table_counts}
use Rattle.ecd_map_laws.proofs.laws.number_of_pairs.Goals as goal

pub returns : goal.returns
returns c = record { told = number_is_told; present = present_counts; pick = pick_counts; table = table_counts }
