use Rattle.ecd_acts_example.proofs.Literal.{literals}
use Rattle.ecd_acts_example.proofs.laws.literals.Goals as goal

pub returns : goal.returns
returns c = literals
