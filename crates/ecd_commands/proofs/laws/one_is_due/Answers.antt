use Rattle.ecd_commands.proofs.Due.{one_is_due}
use Rattle.ecd_commands.proofs.laws.one_is_due.Goals as goal

pub returns : goal.returns
returns c = one_is_due
