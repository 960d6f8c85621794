use Rattle.std.proofs.Common.{◌≡◌, take}
use Rattle.ecd_cast.specs.Memory.{Name}
use Rattle.ecd_cast.specs.ByName.{under}
use Rattle.ecd_cast.specs.Kinds.{cell_among}
use Rattle.ecd_cscope.specs.Surroundings.{cell_if}
use Rattle.ecd_cscope.proofs.cells.cells_by_name.Given as goal

abbrev pub invariant-loop-cell : goal.invariant-loop-cell
invariant-loop-cell l = (c : Name) → cell_if (under l.by_name c) ≡ cell_among (take l.cell-index l.cells) c
