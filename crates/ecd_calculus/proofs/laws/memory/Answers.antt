use Rattle.ecd_calculus.proofs.Calculus.{after-writes}
use Rattle.ecd_calculus.proofs.Frame.{after_other}
use Rattle.ecd_calculus.proofs.laws.memory.Goals as goal

pub returns : goal.returns
returns c = record { writes = after-writes; others = after_other }
