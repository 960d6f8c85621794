use Rattle.std.proofs.Common.{◌≡◌, ◌++◌, ap, ◌∙◌}
use Rattle.ecd_bodies.specs.Numbers.{first_in}
use Rattle.ecd_bodies.specs.Causes.{edges_of_rule, rule_cause}
use Rattle.ecd_graph.specs.Edges.{edge_between}
use Rattle.ecd_bodies.proofs.Gathering.{gathered}
use Rattle.ecd_bodies.proofs.kinds.add_edges.Goals as goal

pub loop-rule-preserved : goal.loop-rule-preserved
loop-rule-preserved c =
    let ends : edge_between c.in_ok-from.from c.first_number-to.result ≡ edges_of_rule (first_in c.args.numbers.now.entries) c.args.source c.rule-item.result =
    ap (λ o. edge_between o c.first_number-to.result) c.in_ok-from.ensures ∙ ap (λ o. edge_between (rule_cause (first_in c.args.numbers.now.entries) c.args.source c.rule-item.result) o) (c.first_number-to.ensures ∙ ap (first_in c.args.numbers.now.entries) c.as_slice.ensures) in
    gathered (edges_of_rule (first_in c.args.numbers.now.entries) c.args.source) c.args.edges.now.items c.args.rules.now c.loop-rule.edges.items c.add_edge.new.edges.items c.loop-rule.rule-index c.rule-item.result c.loop-rule-test.true c.rule-item.is c.loop-rule.invariant
    (c.in_ok-add_edge.ensures.added ∙ ap (λ l. c.loop-rule.edges.items ++ l) ends)
