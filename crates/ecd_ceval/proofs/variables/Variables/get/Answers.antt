use Rattle.std.proofs.Common.{[], ap, sym}
use Rattle.ecd_cast.specs.Expressions.{given}
use Rattle.ecd_ceval.proofs.Slots.{lookup_last, lookup_free}
use Rattle.ecd_ceval.proofs.variables.Variables.get.Goals as goal

pub returns-in-Some : goal.returns-in-Some
returns-in-Some c = rw (← c.self.view_is) (ap given (sym (lookup_last c.args.name.now c.self.inside.slots.items c.in-Some.field-0-0 c.in-Some.value [] (rw c.deref.ensures.value at c.in-Some.ensures))))

pub returns-in-None : goal.returns-in-None
returns-in-None c = rw (← c.self.view_is) (ap given (sym (lookup_free c.args.name.now c.self.inside.slots.items [] (rw c.deref.ensures.value at c.in-None.ensures))))
