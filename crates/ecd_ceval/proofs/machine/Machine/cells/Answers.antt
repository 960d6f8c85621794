use Rattle.std.proofs.Common.{◌≡◌, ◌∙◌, ap, arith}
use Rattle.std.specs.Prelude.{slice_get, Some}
use Rattle.std.proofs.lemmas.Grind.{common_steps}
use Rattle.std.proofs.lemmas.Option.{slice_get_read}
use Rattle.ecd_cast.specs.Validity.{structs_of}
use Rattle.ecd_ceval.proofs.Answering.{cells_there, cells_named, kinds_hold}
use Rattle.ecd_ceval.proofs.machine.Machine.cells.Goals as goal

pub returns : goal.returns
returns c =
    let blocks = c.self.inside.state.blocks.items in
    let read : slice_get c.deref.result.now c.args.block ≡ Some c.in-Some-Cells.field-0.now = grind (arith, common_steps, slice_get_read) in
    let there = rw c.deref.ensures.value at read in
    let structs = structs_of c.self.inside.program.now.items in
    let cells = c.in-Some-Cells.cells in
    let same = c.as_slice.ensures.value in
    let is = there ∙ ap Some c.in-Some-Cells.field-0-is in
    rw (← c.self.view_is)
    (record {
      cells = same ∙ cells_there structs blocks c.args.block c.in-Some-Cells.field-0-0 c.in-Some-Cells.field-0-1 cells is c.self.invariant;
      named = rw same (cells_named structs blocks c.args.block c.in-Some-Cells.field-0-0 c.in-Some-Cells.field-0-1 cells is c.self.invariant);
      kinded = kinds_hold c.self.inside.program.now.items blocks c.self.invariant;
    })
