use Rattle.ecd_acts.specs.Rules.{holds}
use Rattle.ecd_acts.proofs.Statements.{choosing, deciding}
use Rattle.ecd_acts.proofs.laws.choosing.Goals as goal

pub returns : goal.returns
returns c = record { blocks = λ p f g. choosing (holds p) (holds f) (holds g); chains = λ p f. deciding (holds p) (holds f) }
