use Rattle.ecd_acts.specs.Rules.{holds}
use Rattle.ecd_acts.proofs.Statements.{variables}
use Rattle.ecd_acts.proofs.laws.variables.Goals as goal

pub returns : goal.returns
returns c = λ p f. variables (holds p) (holds f)
