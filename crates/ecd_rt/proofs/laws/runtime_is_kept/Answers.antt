use Rattle.ecd_rt.proofs.Gathering.{runtime_is_kept}
use Rattle.ecd_rt.proofs.laws.runtime_is_kept.Goals as goal

pub returns : goal.returns
returns c = runtime_is_kept
