use Rattle.ecd_cscope.proofs.CellMaps.{cell-more}
use Rattle.ecd_cscope.proofs.cells.cells_by_name.Goals as goal

pub loop-cell-preserved : goal.loop-cell-preserved
loop-cell-preserved c =
    cell-more c.loop-cell.by_name c.put_first.new.values c.args.cells.now c.loop-cell.cell-index c.cell-item.result c.as_slice.result.now c.loop-cell-test.true c.cell-item.is c.as_slice.ensures c.loop-cell.invariant
    c.in_ok-put_first.ensures
