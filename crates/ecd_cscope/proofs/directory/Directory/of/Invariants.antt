use Rattle.std.proofs.Common.{◌≡◌, take}
use Rattle.ecd_cscope.specs.Surroundings.{Directs, HasCells}
use Rattle.ecd_cscope.proofs.directory.Directory.of.Given as goal

abbrev pub invariant-loop-item : goal.invariant-loop-item
invariant-loop-item l = record {
  counts : l.at ≡ l.item-index;
  directs : Directs (take l.item-index l.items) l.directory;
  cells : HasCells l.items l.directory.cells.items;
}
