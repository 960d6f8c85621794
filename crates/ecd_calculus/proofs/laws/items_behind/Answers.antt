use Rattle.ecd_calculus.proofs.Calculus.{calls_kept}
use Rattle.ecd_calculus.proofs.laws.items_behind.Goals as goal

pub returns : goal.returns
returns c = record { meaning = calls_kept }
