use Rattle.std.proofs.Common.{◌≡◌, ◌∙◌, ap, sym, subst, arith}
use Rattle.std.specs.Prelude.{slice_get, Option, Some}
use Rattle.std.proofs.lemmas.Grind.{common_steps}
use Rattle.std.proofs.lemmas.Option.{slice_get_read}
use Rattle.ecd_ceval.specs.declared.blocks.Held.{Held}
use Rattle.ecd_ceval.specs.Blocks.{memory_of}
use Rattle.ecd_ceval.specs.Writes.{MayWriteIn}
use Rattle.ecd_ceval.proofs.blocks.cell_to_write.Goals as goal

pub returns-in-Some : goal.returns-in-Some
returns-in-Some c =
    let there : slice_get c.args.blocks.now c.args.block ≡ Some c.in-Some-Cells.field-0.now = grind (arith, common_steps, slice_get_read) in
    let infos = c.in-Some-Cells.declaration.now.cells in
    let read = rw c.as_slice-infos.ensures at c.in-Some.ensures in
    let info : slice_get infos c.in_ok-at-in-Some-Cells.at ≡ Some c.in-Some.info.now = grind (arith, common_steps, slice_get_read, read) in
    let first = rw c.as_slice-infos.ensures at c.in_ok-at-in-Some-Cells.ensures in
    record {
      may =
          subst (λ (o : Option Held). MayWriteIn (memory_of c.args.blocks.now) o c.args.name.now c.args.to c.in_ok-at-in-Some-Cells.at) (sym (there ∙ ap Some c.in-Some-Cells.field-0-is))
          (first, rw info (sym c.may_hold.ensures ∙ c.if-may_hold.true));
    }
