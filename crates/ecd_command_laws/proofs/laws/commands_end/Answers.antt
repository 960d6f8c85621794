use Rattle.ecd_command_laws.proofs.Commands.{commands_end}
use Rattle.ecd_command_laws.proofs.laws.commands_end.Goals as goal

pub returns : goal.returns
returns c = commands_end
