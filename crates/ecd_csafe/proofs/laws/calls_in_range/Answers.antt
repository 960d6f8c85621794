use Rattle.ecd_csafe.proofs.RunsInRange.{calls_in_range}
use Rattle.ecd_csafe.proofs.laws.calls_in_range.Goals as goal

pub returns : goal.returns
returns c = calls_in_range
