use Rattle.ecd_shape_rules.proofs.Kept.{keeping_breaks_none}
use Rattle.ecd_shape_rules.proofs.laws.kept_rules_are_not_broken.Goals as goal

pub returns : goal.returns
returns c = keeping_breaks_none
