use Rattle.std.proofs.Common.{subst, sym, List, ◌∙◌}
use Rattle.ecd_cast.specs.declared.tree.CItem.{CItem}
use Rattle.ecd_cast.specs.declared.tree.CItem.TheVariants.{Function as AFunction}
use Rattle.ecd_cast.specs.Validity.{IsValidAfter}
use Rattle.ecd_cbuild.proofs.Built.{built_function, on_ok}
use Rattle.ecd_cbuild.proofs.builder.Builder.push_function.Goals as goal

pub invariant_of-self-2 : goal.invariant_of-self-2
invariant_of-self-2 c =
    built_function c.self.inside.items _ c.args.function c.self.inside.depth c.self.inside.spaces _ _ c.self.inside.reaches _ c.in_ok-name.name c.in_ok-reach.reach c.self.invariant
    (subst (λ (xs : List CItem). IsValidAfter xs (AFunction c.args.function)) (sym c.self.view_is) c.requires.valid)
    c.requires.spelled
    c.in_ok-push.ensures.counted
    c.in_ok-push.ensures.ok
    (c.in_ok-name.ensures.items ∙ c.as_slice.ensures)
    (on_ok c.insert.result _ (sym c.is_err.ensures.value ∙ c.if-is_err.false) c.insert.ensures.updates)
    c.in_ok-reach.ensures.calls
    c.in_ok-reach.ensures.variables
    c.max-self-inside.ensures
    c.max-self-inside-2.ensures
