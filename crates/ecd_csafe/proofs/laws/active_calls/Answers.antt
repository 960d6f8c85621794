use Rattle.ecd_csafe.proofs.Active.{active_calls}
use Rattle.ecd_csafe.proofs.laws.active_calls.Goals as goal

pub returns : goal.returns
returns c = active_calls
