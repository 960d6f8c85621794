use Rattle.ecd_acts.specs.Rules.{holds}
use Rattle.ecd_acts.proofs.Statements.{sequences}
use Rattle.ecd_acts.proofs.laws.sequences.Goals as goal

pub returns : goal.returns
returns c = λ p f g. sequences (holds p) (holds f) (holds g)
