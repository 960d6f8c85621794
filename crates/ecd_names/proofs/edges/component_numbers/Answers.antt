use Rattle.std.proofs.Common.{ℕ, List, sym, subst, ◌∙◌}
use Rattle.ecd_graph.specs.declared.edge.Edge.{Edge}
use Rattle.ecd_graph.specs.Graphs.{AreAmong}
use Rattle.ecd_names.specs.Edges.{edges_of}
use Rattle.ecd_names.proofs.Components.{ends-among, are-components}
use Rattle.ecd_names.proofs.edges.component_numbers.Goals as goal

pub components-requires : goal.components-requires
components-requires c =
    subst (λ (l : List Edge). AreAmong c.rule_count.result l) (sym (c.deref.ensures.value ∙ c.in_ok-edges.ensures))
    (subst (λ (n : ℕ). AreAmong n (edges_of c.args.table.now)) (sym c.rule_count.ensures) (ends-among c.args.table.now))

pub returns : goal.returns
returns c = are-components c.args.table.now c.rule_count.result c.deref.result.now c.in_ok-numbers.numbers.items c.rule_count.ensures (c.deref.ensures.value ∙ c.in_ok-edges.ensures) c.in_ok-numbers.ensures.length c.in_ok-numbers.ensures.components c.in_ok-numbers.ensures.order
