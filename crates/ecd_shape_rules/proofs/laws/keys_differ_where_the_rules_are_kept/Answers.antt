use Rattle.ecd_shape_rules.proofs.DifferentKeys.{keeping_has_different_keys}
use Rattle.ecd_shape_rules.proofs.laws.keys_differ_where_the_rules_are_kept.Goals as goal

pub returns : goal.returns
returns c = keeping_has_different_keys
