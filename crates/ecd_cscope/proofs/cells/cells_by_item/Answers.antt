use Rattle.ecd_cscope.proofs.CellMaps.{has-more}
use Rattle.ecd_cscope.proofs.cells.cells_by_item.Goals as goal

pub loop-item-preserved : goal.loop-item-preserved
loop-item-preserved c =
    has-more c.args.items.now c.loop-item.item-index c.item-item.result c.loop-item.maps.items c.push.new.self.items _ c.loop-item-test.true c.item-item.is c.loop-item.invariant c.in_ok-cells_of_item.ensures c.in_ok-push.ensures.items
