use Rattle.ecd_acts.specs.Rules.{holds}
use Rattle.ecd_acts.proofs.Statements.{weakening}
use Rattle.ecd_acts.proofs.laws.weakening.Goals as goal

pub returns : goal.returns
returns c = λ p q f g. weakening (holds p) (holds q) (holds f) (holds g)
