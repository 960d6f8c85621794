use Rattle.std.proofs.Common.{refl}
use Rattle.ecd_ceval.proofs.Writing.{cell_written}
use Rattle.ecd_ceval.proofs.blocks.write_cell.Goals as goal

pub returns-else-at-len : goal.returns-else-at-len
returns-else-at-len c =
    cell_written c.args.blocks.now c.args.block c.in-Cells.number c.in-Some.at c.args.name.now c.args.to c.index-blocks-block.result c.in-Cells.declaration c.in-Cells.cells _ c.if-block-blocks.false c.in-Cells.is refl c.in-Some.ensures
