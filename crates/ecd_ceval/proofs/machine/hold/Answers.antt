use Rattle.ecd_cast.specs.Validity.{structs_of}
use Rattle.ecd_ceval.proofs.Answering.{cells_held}
use Rattle.ecd_ceval.proofs.machine.hold.Goals as goal

pub returns-in_ok-cells-in-Some : goal.returns-in_ok-cells-in-Some
returns-in_ok-cells-in-Some c =
    rw c.in-Cells.is (cells_held (structs_of c.args.items.now) c.in-Cells.number c.in-Some.declaration c.in_ok-cells-in-Some.cells c.in-Some.ensures c.in_ok-cells-in-Some.ensures)
