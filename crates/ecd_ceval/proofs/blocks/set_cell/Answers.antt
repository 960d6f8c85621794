use Rattle.std.proofs.Common.{refl, ◌∙◌, sym}
use Rattle.ecd_ceval.proofs.Answering.{cell_set_memory, cell_set_kinds, cell_set_kept, has_block}
use Rattle.ecd_ceval.proofs.blocks.set_cell.Goals as goal

pub returns-clause-memory : goal.returns-clause-memory
returns-clause-memory c =
    cell_set_memory c.args.blocks.now.items c.args.block c.in-Cells.number c.args.cell c.args.to c.index_mut.result.now c.in-Cells.declaration c.in-Cells.cells _ (has_block c.args.blocks.now.items c.args.block c.args.cell c.requires)
    (sym c.index_mut.ensures.value ∙ c.in-Cells.is) refl

pub returns-clause-kinds : goal.returns-clause-kinds
returns-clause-kinds c =
    cell_set_kinds c.args.blocks.now.items c.args.block c.in-Cells.number c.args.cell c.args.to c.index_mut.result.now c.in-Cells.declaration c.in-Cells.cells _ (has_block c.args.blocks.now.items c.args.block c.args.cell c.requires)
    (sym c.index_mut.ensures.value ∙ c.in-Cells.is) refl

pub returns-clause-kept : goal.returns-clause-kept
returns-clause-kept c =
    cell_set_kept c.args.blocks.now.items c.args.block c.in-Cells.number c.args.cell c.args.to c.index_mut.result.now c.in-Cells.declaration c.in-Cells.cells _ (has_block c.args.blocks.now.items c.args.block c.args.cell c.requires)
    (sym c.index_mut.ensures.value ∙ c.in-Cells.is) refl
