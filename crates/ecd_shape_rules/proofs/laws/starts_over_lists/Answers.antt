use Rattle.ecd_shape_rules.proofs.Listed.{starts_over_lists}
use Rattle.ecd_shape_rules.proofs.laws.starts_over_lists.Goals as goal

pub returns : goal.returns
returns c = starts_over_lists
