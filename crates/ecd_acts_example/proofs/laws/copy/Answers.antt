use Rattle.ecd_acts_example.proofs.Copying.{copier}
use Rattle.ecd_acts_example.proofs.laws.copy.Goals as goal

pub returns : goal.returns
returns c = copier
