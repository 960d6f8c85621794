use Rattle.ecd_calculus.proofs.Calculus.{ends_called, call_declares}
use Rattle.ecd_calculus.proofs.laws.call.Goals as goal

pub returns : goal.returns
returns c = record { body = ends_called; declares = call_declares }
