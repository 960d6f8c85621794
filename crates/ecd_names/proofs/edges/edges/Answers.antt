use Rattle.std.proofs.Common.{sym, arith}
use Rattle.ecd_bodies.specs.Named.{all_rules, first_of}
use Rattle.ecd_names.specs.Edges.{rule_edges}
use Rattle.ecd_names.proofs.Walking.{no_element, flat-more}
use Rattle.ecd_names.proofs.Scoping.{scope_at, scopes-each}
use Rattle.ecd_names.proofs.edges.edges.Goals as goal

pub add_rule-requires : goal.add_rule-requires
add_rule-requires c = scope_at (all_rules c.args.table.now) c.loop-number.number c.in-Some.rule.now c.args.scopes.now c.index-scopes-number.result c.requires (sym c.in-Some.ensures) c.index-scopes-number.is

pub bounds-scopes-number : goal.bounds-scopes-number
bounds-scopes-number c = omega (arith, scopes-each (all_rules c.args.table.now) c.args.scopes.now c.requires, c.rule_count-number-end.ensures)

pub unreachable-requires : goal.unreachable-requires
unreachable-requires c = no_element (all_rules c.args.table.now) c.loop-number.number (omega (arith, c.rule_count-number-end.ensures)) c.in-None.ensures

pub loop-number-preserved : goal.loop-number-preserved
loop-number-preserved c = flat-more (rule_edges (first_of c.args.table.now)) (all_rules c.args.table.now) c.loop-number.number c.in-Some.rule.now _ _ (sym c.in-Some.ensures) c.loop-number.invariant c.in_ok-add_rule-in-Some.ensures
