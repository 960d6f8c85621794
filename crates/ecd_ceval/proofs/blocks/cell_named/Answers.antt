use Rattle.std.proofs.Common.{◌∙◌, arith}
use Rattle.std.proofs.lemmas.Grind.{common_steps}
use Rattle.std.proofs.lemmas.Option.{slice_get_past, slice_get_read}
use Rattle.std.specs.Prelude.{slice_get, Some, None, ◌≡◌}
use Rattle.ecd_ceval.proofs.Writing.{cell_first, cell_past, cell_none}
use Rattle.ecd_ceval.proofs.blocks.cell_named.Goals as goal

pub returns-in-Some-get : goal.returns-in-Some-get
returns-in-Some-get c =
    let there : slice_get c.args.cells.now c.in-Some.at ≡ Some c.in-Some-get.cell.now = grind (arith, common_steps, slice_get_read) in
    c.cell_value.ensures ∙ cell_first c.args.name.now c.args.infos.now c.args.cells.now c.in-Some.at c.in-Some-get.cell.now c.in-Some.ensures there

pub returns-in-None-get : goal.returns-in-None-get
returns-in-None-get c =
    let h = c.in-None-get.ensures.lookup in
    let there : slice_get c.args.cells.now c.in-Some.at ≡ None = slice_get_past c.args.cells.now c.in-Some.at h.3 in
    cell_past c.args.name.now c.args.infos.now c.args.cells.now c.in-Some.at c.in-Some.ensures there

pub returns-in-None : goal.returns-in-None
returns-in-None c = cell_none c.args.name.now c.args.infos.now c.args.cells.now c.in-None.ensures
