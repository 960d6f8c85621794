use Rattle.ecd_acts.specs.Rules.{holds}
use Rattle.ecd_acts.proofs.Statements.{writing}
use Rattle.ecd_acts.proofs.laws.writing.Goals as goal

pub returns : goal.returns
returns c = λ p f. writing (holds p) (holds f)
