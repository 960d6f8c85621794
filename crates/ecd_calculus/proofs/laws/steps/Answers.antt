use Rattle.ecd_calculus.proofs.Frame.{steps}
use Rattle.ecd_calculus.proofs.laws.steps.Goals as goal

pub returns : goal.returns
returns c = steps
