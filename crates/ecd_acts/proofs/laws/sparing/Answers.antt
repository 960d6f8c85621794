use Rattle.ecd_acts.proofs.Cells.{sparing}
use Rattle.ecd_acts.proofs.laws.sparing.Goals as goal

pub returns : goal.returns
returns c = sparing
