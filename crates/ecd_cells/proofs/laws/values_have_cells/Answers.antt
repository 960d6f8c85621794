use Rattle.ecd_cells.proofs.Existence.{values_have_cells}
use Rattle.ecd_cells.proofs.OneRead.{has_one_read}
use Rattle.ecd_cells.proofs.laws.values_have_cells.Goals as goal

pub returns : goal.returns
returns c = record { some = values_have_cells; one = has_one_read }
