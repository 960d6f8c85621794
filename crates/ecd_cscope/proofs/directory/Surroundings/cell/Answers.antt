use Rattle.std.proofs.Common.{◌≡◌, sym, ◌∙◌, ap, arith, ◌≤◌, length}
use Rattle.std.specs.Prelude.{Some, None, slice_get}
use Rattle.std.specs.Option.{option_copied}
use Rattle.ecd_cast.specs.ByName.{under}
use Rattle.ecd_cscope.specs.Surroundings.{cell_if}
use Rattle.ecd_cscope.specs.Variables.{kind_if}
use Rattle.ecd_cscope.proofs.CellMaps.{cell_under, has-at}
use Rattle.ecd_cscope.proofs.Directs.{cell_there, no_cell, no_cell_yet}
use Rattle.ecd_cscope.proofs.directory.Surroundings.cell.Goals as goal

pub returns-in_err-number : goal.returns-in_err-number
returns-in_err-number c =
    let e : under c.args.self.now.directory.now.structs c.args.name.now ≡ None = sym c.get.ensures.value ∙ ap option_copied c.in_err-number.was in
    let there : c.args.self.now.at_ ≤ length c.args.self.now.items.now = omega (arith, c.requires.there) in
    ap kind_if c.from_residual.ensures ∙ sym (no_cell c.args.self.now.items.now c.args.self.now.at_ there c.args.name.now (sym (c.requires.directs.structs_are c.args.name.now) ∙ e) c.args.cell.now)

pub returns-then-number-self : goal.returns-then-number-self
returns-then-number-self c =
    let e : under c.args.self.now.directory.now.structs c.args.name.now ≡ Some c.in_ok-number.field-0.now = sym c.get.ensures.value ∙ ap option_copied c.in_ok-number.was in
    let there : c.args.self.now.at_ ≤ length c.args.self.now.items.now = omega (arith, c.requires.there) in
    sym (no_cell_yet c.args.self.now.items.now c.args.self.now.at_ there c.args.name.now c.in_ok-number.field-0.now (sym (c.requires.directs.structs_are c.args.name.now) ∙ e) c.if-number-self.true c.args.cell.now)

pub returns-in_err-cells : goal.returns-in_err-cells
returns-in_err-cells c =
    let items = c.args.self.now.items.now in
    let maps = c.args.self.now.directory.now.cells.items in
    let i = c.in_ok-number.field-0.now in
    let e : under c.args.self.now.directory.now.structs c.args.name.now ≡ Some i = sym c.get.ensures.value ∙ ap option_copied c.in_ok-number.was in
    let there : c.args.self.now.at_ ≤ length items = omega (arith, c.requires.there) in
    let looked : slice_get maps i ≡ None = ap (λ l. slice_get l i) (sym c.as_slice.ensures.value) ∙ (sym c.cells_numbered.ensures ∙ ap option_copied c.in_err-cells.was) in
    ap kind_if c.from_residual-in_err-cells.ensures ∙ (sym (ap (λ o. cell_under o c.args.cell.now) looked) ∙ (has-at items maps c.requires.cells i c.args.cell.now ∙
    sym (cell_there items c.args.self.now.at_ there c.args.name.now i (sym (c.requires.directs.structs_are c.args.name.now) ∙ e) c.if-number-self.false c.args.cell.now)))

pub returns-in_err-kind : goal.returns-in_err-kind
returns-in_err-kind c =
    let items = c.args.self.now.items.now in
    let maps = c.args.self.now.directory.now.cells.items in
    let i = c.in_ok-number.field-0.now in
    let e : under c.args.self.now.directory.now.structs c.args.name.now ≡ Some i = sym c.get.ensures.value ∙ ap option_copied c.in_ok-number.was in
    let there : c.args.self.now.at_ ≤ length items = omega (arith, c.requires.there) in
    let looked : slice_get maps i ≡ Some c.in_ok-cells.cells.now = ap (λ l. slice_get l i) (sym c.as_slice.ensures.value) ∙ (sym c.cells_numbered.ensures ∙ ap option_copied c.in_ok-cells.was) in
    let value : under c.in_ok-cells.cells.now c.args.cell.now ≡ None = sym c.get-2.ensures.value ∙ ap option_copied c.in_err-kind.was in
    ap kind_if c.from_residual-in_err-kind.ensures ∙ (sym (ap cell_if value) ∙ (sym (ap (λ o. cell_under o c.args.cell.now) looked) ∙ (has-at items maps c.requires.cells i c.args.cell.now ∙
    sym (cell_there items c.args.self.now.at_ there c.args.name.now i (sym (c.requires.directs.structs_are c.args.name.now) ∙ e) c.if-number-self.false c.args.cell.now))))

pub returns : goal.returns
returns c =
    let items = c.args.self.now.items.now in
    let maps = c.args.self.now.directory.now.cells.items in
    let i = c.in_ok-number.field-0.now in
    let e : under c.args.self.now.directory.now.structs c.args.name.now ≡ Some i = sym c.get.ensures.value ∙ ap option_copied c.in_ok-number.was in
    let there : c.args.self.now.at_ ≤ length items = omega (arith, c.requires.there) in
    let looked : slice_get maps i ≡ Some c.in_ok-cells.cells.now = ap (λ l. slice_get l i) (sym c.as_slice.ensures.value) ∙ (sym c.cells_numbered.ensures ∙ ap option_copied c.in_ok-cells.was) in
    let value = sym c.get-2.ensures.value ∙ ap option_copied c.in_ok-kind.was in
    ap Some c.of_cell.ensures ∙ (sym (ap cell_if value) ∙ (sym (ap (λ o. cell_under o c.args.cell.now) looked) ∙ (has-at items maps c.requires.cells i c.args.cell.now ∙
    sym (cell_there items c.args.self.now.at_ there c.args.name.now i (sym (c.requires.directs.structs_are c.args.name.now) ∙ e) c.if-number-self.false c.args.cell.now))))
