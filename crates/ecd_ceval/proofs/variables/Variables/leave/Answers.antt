use Rattle.std.proofs.Common.{ap, sym, ◌∙◌, []}
use Rattle.ecd_cast.specs.Meaning.{leave}
use Rattle.ecd_ceval.specs.declared.variables.Slot.TheVariants.{Opened, Variable}
use Rattle.ecd_ceval.specs.Scopes.{scopes_of}
use Rattle.ecd_ceval.proofs.Slots.{scopes-push, leave-declare}
use Rattle.ecd_ceval.proofs.variables.Variables.leave.Goals as goal

pub returns-in-Opened : goal.returns-in-Opened
returns-in-Opened c =
    let items = c.in-Some.ensures.items in let k = rw c.in-Opened.is at items in
    rw (← c.self.view_is) (sym (c.loop-slot.invariant ∙ (ap (λ l. leave (scopes_of l)) k ∙ ap leave (scopes-push [] c.pop.new.self.items Opened))))

pub loop-slot-preserved : goal.loop-slot-preserved
loop-slot-preserved c =
    let x = c.in_default-slot.field-0 in let v = c.in_default-slot.field-1 in
    let items = c.in-Some.ensures.items in let k = rw c.in_default-slot.is at items in
    c.loop-slot.invariant ∙ (ap (λ l. leave (scopes_of l)) k ∙ (ap leave (scopes-push [] c.pop.new.self.items (Variable x v)) ∙ leave-declare x.now v (scopes_of c.pop.new.self.items)))
