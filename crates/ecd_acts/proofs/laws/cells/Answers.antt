use Rattle.ecd_acts.proofs.Cells.{cells_are}
use Rattle.ecd_acts.proofs.laws.cells.Goals as goal

pub returns : goal.returns
returns c = cells_are
