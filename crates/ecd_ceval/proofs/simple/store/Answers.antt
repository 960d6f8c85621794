use Rattle.std.proofs.Common.{refl, ◌∙◌, sym}
use Rattle.ecd_ceval.specs.Places.{place_in}
use Rattle.ecd_ceval.proofs.Following.{want_begun, same_items}
use Rattle.ecd_ceval.proofs.Stores.{byte_stores, put_back}
use Rattle.ecd_ceval.proofs.simple.store.Goals as goal

pub returns-then-not-write_byte : goal.returns-then-not-write_byte
returns-then-not-write_byte c calls =
    let same = c.if-not-write_byte.ensures ∙ c.deref_mut.ensures.value in
    want_begun _ c.args.variables.now c.args.state.now _ (same_items _ _ _ same (rw c.deref_mut.ensures.value at c.deref_mut.ensures.len)) refl

pub returns-else-not-write_byte : goal.returns-else-not-write_byte
returns-else-not-write_byte c calls =
    let long = rw c.deref_mut.ensures.value at c.deref_mut.ensures.len in
    let stored = rw c.deref_mut.ensures.value at c.if-not-write_byte.ensures in
    byte_stores calls c.args.name.now c.args.index.now c.args.from.now (place_in c.args.context c.args.number) c.args.variables.now c.args.state.now _ c.in-Ok.write.block c.in-Ok.write.at c.in-Ok.write.byte
    (sym (rw c.deref.ensures.value at c.in-Ok.ensures)) (put_back _ _ c.args.state.now.blocks.items c.write_byte.new.blocks stored long) c.in-Some.ensures
