use Rattle.ecd_cast.specs.Spelling.{cell_lexemes}
use Rattle.ecd_cprint.proofs.Loops.{grows_more, grows_all}
use Rattle.ecd_cprint.proofs.items.print_cells.Goals as goal

pub loop-cell-preserved : goal.loop-cell-preserved
loop-cell-preserved c = grows_more cell_lexemes _ c.loop-cell.cell-index c.cell-item.result _ _ _ c.loop-cell-test.true c.cell-item.is c.loop-cell.invariant c.in_ok-print_cell.ensures

pub returns : goal.returns
returns c = grows_all cell_lexemes _ c.loop-cell.cell-index _ _ c.loop-cell-test.false c.loop-cell.invariant
