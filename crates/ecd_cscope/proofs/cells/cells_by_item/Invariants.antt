use Rattle.std.proofs.Common.{take}
use Rattle.ecd_cscope.specs.Surroundings.{HasCells}
use Rattle.ecd_cscope.proofs.cells.cells_by_item.Given as goal

abbrev pub invariant-loop-item : goal.invariant-loop-item
invariant-loop-item l = HasCells (take l.item-index l.items) l.maps.items
