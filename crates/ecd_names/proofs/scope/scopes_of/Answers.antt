use Rattle.std.proofs.Common.{◌+◌, List, take, sym, subst, arith}
use Rattle.ecd_bodies.specs.Named.{all_rules}
use Rattle.ecd_names.specs.declared.scope.Scope.{Scope}
use Rattle.ecd_names.specs.Scopes.{AreScopes}
use Rattle.ecd_names.proofs.Walking.{no_element}
use Rattle.ecd_names.proofs.Scoping.{scopes-more, scopes-all}
use Rattle.ecd_names.proofs.scope.scopes_of.Goals as goal

pub unreachable-requires : goal.unreachable-requires
unreachable-requires c = no_element (all_rules c.args.table.now) c.loop-number.number (omega (arith, c.rule_count-number-end.ensures)) c.in-None.ensures

pub loop-number-preserved : goal.loop-number-preserved
loop-number-preserved c =
    let n = c.loop-number.number in
    subst (λ (l : List Scope). AreScopes (take (n + 1) (all_rules c.args.table.now)) l) (sym c.in_ok-push-in-Some.ensures.items)
    (scopes-more (all_rules c.args.table.now) n c.in-Some.rule.now c.loop-number.scopes.items c.in_ok-of-in-Some.field-0 (sym c.in-Some.ensures) c.loop-number.invariant c.in_ok-of-in-Some.ensures)

pub returns : goal.returns
returns c = scopes-all (all_rules c.args.table.now) c.loop-number.number c.loop-number.scopes.items (omega (arith, c.rule_count-number-end.ensures)) c.loop-number.invariant
