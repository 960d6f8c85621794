use Rattle.std.proofs.Common.{◌≡◌, ◌<◌, ◌-◌, suc, length, drop, arith, refl, sym, subst, ◌∙◌}
use Rattle.ecd_ceval.specs.Scopes.{IsFree}
use Rattle.ecd_ceval.proofs.Slots.{last_here}
use Rattle.ecd_ceval.proofs.variables.last_of.Goals as goal

pub returns-then-eq : goal.returns-then-eq
returns-then-eq c =
    let lt : c.loop-at.at - 1 < length c.args.slots.now = omega arith in
    let same : c.loop-at.at ≡ suc (c.loop-at.at - 1) = omega arith in
    let free = subst (λ n. IsFree c.args.name.now (drop n c.args.slots.now)) same c.loop-at.invariant.1 in
    last_here c.args.name.now c.args.slots.now (c.loop-at.at - 1) _ _ c.in-Variable.value lt (sym c.in-Variable.is) (sym c.eq.ensures ∙ c.if-eq.true, refl) free
