use Rattle.ecd_calculus.proofs.Shapes.{choice}
use Rattle.ecd_calculus.proofs.laws.choice.Goals as goal

pub returns : goal.returns
returns c = choice
