use Rattle.ecd_map_laws.proofs.Entries.{field_says, pick_says, table_says}
use Rattle.ecd_map_laws.proofs.laws.words_for_entries.Goals as goal

pub returns : goal.returns
returns c = record { field = field_says; pick = pick_says; table = table_says }
