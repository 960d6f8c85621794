use Rattle.ecd_calculus.proofs.Shapes.{repetition}
use Rattle.ecd_calculus.proofs.laws.repetition.Goals as goal

pub returns : goal.returns
returns c = repetition
