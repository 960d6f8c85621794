use Rattle.ecd_one_value.proofs.TableLaws.{one_table_of_key, stands_by_key, stands_in_table_of_key, have_same_lists}
use Rattle.ecd_one_value.proofs.laws.tables_of_a_map.Goals as goal

pub returns : goal.returns
returns c = record { one = one_table_of_key; by_key = stands_by_key; of_key = stands_in_table_of_key; lists = have_same_lists }
