use Rattle.ecd_bodies.proofs.Grouping.{groups_by_rules}
use Rattle.ecd_bodies.proofs.laws.groups.Goals as goal

pub returns : goal.returns
returns c = groups_by_rules
