use Rattle.std.proofs.Common.{refl, ◌∙◌, sym}
use Rattle.ecd_ceval.specs.Places.{place_in}
use Rattle.ecd_ceval.proofs.Following.{want_begun, same_items}
use Rattle.ecd_ceval.proofs.Stores.{cell_sets, put_back}
use Rattle.ecd_ceval.proofs.simple.set_cell.Goals as goal

pub returns-then-not-write_cell : goal.returns-then-not-write_cell
returns-then-not-write_cell c calls =
    let same = c.if-not-write_cell.ensures ∙ c.deref_mut.ensures.value in
    want_begun _ c.args.variables.now c.args.state.now _ (same_items _ _ _ same (rw c.deref_mut.ensures.value at c.deref_mut.ensures.len)) refl

pub returns-else-not-write_cell : goal.returns-else-not-write_cell
returns-else-not-write_cell c calls =
    let long = rw c.deref_mut.ensures.value at c.deref_mut.ensures.len in
    let set = rw c.deref_mut.ensures.value at c.if-not-write_cell.ensures in
    cell_sets calls c.args.name.now c.args.cell.now c.args.from.now (place_in c.args.context c.args.number) c.args.variables.now c.args.state.now _ c.in-Ok.block c.in-Ok.to
    (sym (rw c.deref.ensures.value at c.in-Ok.ensures)) (put_back _ _ c.args.state.now.blocks.items c.write_cell.new.blocks set long) c.in-Some.ensures
