use Rattle.ecd_acts_example.proofs.Comparing.{comparison}
use Rattle.ecd_acts_example.proofs.laws.comparison.Goals as goal

pub returns : goal.returns
returns c = comparison
