use Rattle.std.proofs.Common.{◌≡◌, length, arith, refl, sym, []}
use Rattle.ecd_ceval.specs.declared.variables.Slot.TheVariants.{Variable}
use Rattle.ecd_ceval.proofs.Slots.{within_last, assign_found, assign_free}
use Rattle.ecd_ceval.proofs.variables.Variables.assign.Goals as goal

pub index_mut-requires : goal.index_mut-requires
index_mut-requires c =
    let h = within_last c.args.name.now c.self.inside.slots.items c.in-Some.at c.in-Some.field-0-1 (rw c.deref.ensures.value at c.in-Some.ensures) in
    let e = c.deref.ensures.len in let g = c.deref.ensures.value in
    let k : length c.deref.result.now ≡ length c.self.inside.slots.items = rw g in omega arith

pub returns-in-Some : goal.returns-in-Some
returns-in-Some c =
    rw (← c.self.view_is)
    (sym (assign_found c.args.name.now (Variable c.args.name c.args.value) c.args.value c.in-Some.field-0-1 c.self.inside.slots.items c.in-Some.at [] (λ e. refl) (rw c.deref.ensures.value at c.in-Some.ensures)))

pub returns-in_default : goal.returns-in_default
returns-in_default c = rw (← c.self.view_is) (sym (assign_free c.args.name.now c.args.value c.self.inside.slots.items [] (rw c.deref.ensures.value at c.in_default.ensures)))
