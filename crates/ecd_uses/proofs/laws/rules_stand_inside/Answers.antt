use Rattle.ecd_uses.proofs.Inside.{rules_inside}
use Rattle.ecd_uses.proofs.laws.rules_stand_inside.Goals as goal

pub returns : goal.returns
returns c = rules_inside
