use Rattle.std.proofs.Common.{rules, ◌≡◌, ◌∙◌, sym, ap, ◌+◌, ℕ, arith, subst, length, get_or, List, [], ◌∷◌, ◌++◌}
use Rattle.std.proofs.lemmas.List.{length-set, get_or_read}
use Rattle.std.proofs.lemmas.Option.{slice_get-get_or}
use Rattle.ecd_graph.specs.Chains.{IsLast, ArePrevious}
use Rattle.ecd_graph.proofs.Linking.{ends_more, linked_more}
use Rattle.ecd_graph.proofs.chains.chains_of.Goals as goal

pub loop-edge-preserved : goal.loop-edge-preserved
loop-edge-preserved c =
    let h = c.loop-edge.invariant in
    let there = slice_get-get_or c.args.edges.now c.loop-edge.edge-index (record { from = 0; to = 0 }) c.loop-edge-test.true in
    let among = (c.requires c.loop-edge.edge-index _ there).0 in
    let link : c.in_ok-link.link ≡ c.loop-edge.edge-index + 1 = search rules in
    let x = get_or c.args.edges.now c.loop-edge.edge-index (record { from = 0; to = 0 }) in
    let pushed : c.push.new.self.items ≡ c.loop-edge.previous.items ++ get_or c.loop-edge.last.items x.from 0 ∷ [] =
    c.in_ok-push.ensures.items ∙ ap (λ (n : ℕ). c.loop-edge.previous.items ++ n ∷ []) (get_or_read c.loop-edge.last.items x.from c.index.result.now (omega (arith, among, h.nodes_are)) (search rules) 0) in
    record {
      nodes_are = length-set _ _ _ ∙ h.nodes_are;
      edges_are = search rules;
      counted = link;
      ends = rw link (ends_more _ _ _ _ _ _ there among h.nodes_are h.edges_are h.ends h.linked);
      linked = subst (λ (ps : List ℕ). ArePrevious c.args.edges.now ps) (sym pushed) (linked_more _ _ _ _ _ _ there among h.nodes_are h.edges_are h.ends h.linked);
    }

pub returns-clause-last : goal.returns-clause-last
returns-clause-last c = λ v lt.
    let same : c.loop-edge.edge-index ≡ length c.args.edges.now = omega arith in
    subst (λ (n : ℕ). IsLast c.args.edges.now v n (get_or c.loop-edge.last.items v 0)) same (c.loop-edge.invariant.ends v lt)
