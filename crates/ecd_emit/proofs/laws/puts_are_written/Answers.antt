use Rattle.ecd_emit.proofs.Writing.{puts_are_written}
use Rattle.ecd_emit.proofs.laws.puts_are_written.Goals as goal

pub returns : goal.returns
returns c = puts_are_written
