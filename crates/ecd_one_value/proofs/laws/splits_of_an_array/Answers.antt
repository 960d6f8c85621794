use Rattle.ecd_one_value.proofs.SplitLaws.{parts_split_once, begin_with_start, empty_may_be, may_follow, none_where_absent, have_starts_differ}
use Rattle.ecd_one_value.proofs.laws.splits_of_an_array.Goals as goal

pub returns : goal.returns
returns c = record { once = parts_split_once; begin = begin_with_start; empty = empty_may_be; follow = may_follow; absent = none_where_absent; differ = have_starts_differ }
