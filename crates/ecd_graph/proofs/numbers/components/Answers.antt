use Rattle.std.proofs.Common.{◌∙◌, ℕ, List, subst, length}
use Rattle.ecd_graph.specs.declared.edge.Edge.{Edge}
use Rattle.ecd_graph.specs.Graphs.{NumbersComponents, AreInOrder}
use Rattle.ecd_graph.proofs.Completing.{numbers_components, are_in_order}
use Rattle.ecd_graph.proofs.numbers.components.Goals as goal

pub returns-clause-components : goal.returns-clause-components
returns-clause-components c =
    let s = c.run.new.search in
    let edges = c.in_ok-run.ensures.edges ∙ c.in_ok-search.ensures.edges in
    let nodes = c.in_ok-run.ensures.nodes in
    subst (λ (n : ℕ). NumbersComponents n c.args.edges.now c.in_ok-numbers.numbers.items) nodes
    (subst (λ (es : List Edge). NumbersComponents (length s.marks.items) es c.in_ok-numbers.numbers.items) edges
    (numbers_components s c.in_ok-numbers.numbers.items c.in_ok-run.ensures.complete c.in_ok-numbers.ensures))

pub returns-clause-order : goal.returns-clause-order
returns-clause-order c =
    let s = c.run.new.search in
    let edges = c.in_ok-run.ensures.edges ∙ c.in_ok-search.ensures.edges in
    let nodes = c.in_ok-run.ensures.nodes in
    subst (λ (n : ℕ). AreInOrder n c.args.edges.now c.in_ok-numbers.numbers.items) nodes
    (subst (λ (es : List Edge). AreInOrder (length s.marks.items) es c.in_ok-numbers.numbers.items) edges
    (are_in_order s c.in_ok-numbers.numbers.items c.in_ok-run.ensures.complete c.in_ok-numbers.ensures))
