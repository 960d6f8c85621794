use Rattle.ecd_outside.proofs.Numbers.{number_tells}
use Rattle.ecd_outside.proofs.memory_files.number_of.Goals as goal

pub returns : goal.returns
returns c = number_tells c.args.files.now c.args.name.now c.first_named.result c.first_named.ensures
