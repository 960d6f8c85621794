use Rattle.std.proofs.Common.{◌∙◌, ◌≡◌, ℕ, arith, subst, inl, inr}
use Rattle.std.proofs.lemmas.Bool.{cases_lt}
use Rattle.ecd_graph.specs.declared.search.Mark.TheVariants.{Unseen}
use Rattle.ecd_graph.specs.Searches.{mark}
use Rattle.ecd_graph.proofs.Completing.{complete_by, sound_stays}
use Rattle.ecd_graph.proofs.numbers.run.Goals as goal

pub loop-node-preserved : goal.loop-node-preserved
loop-node-preserved c =
    let h = c.loop-node.invariant in
    let e = c.in_ok-visit.ensures in
    record {
      held = e.held;
      sound = sound_stays c.loop-node.search c.visit.new.self h.sound e.stays;
      nodes_are = e.stays.nodes ∙ h.nodes_are;
      idle = e.idle;
      edges_are = e.stays.edges ∙ h.edges_are;
      seen = λ v lt u. elim (cases_lt v c.loop-node.node) [
        | inl before ↦ h.seen v before (e.stays.seen v u)
        | inr not_before ↦
            let it : v ≡ c.loop-node.node = omega (arith, not_before, lt) in
            e.met (subst (λ (w : ℕ). mark c.visit.new.self.marks.items w ≡ Unseen) it u)
      ];
    }

pub returns-clause-complete : goal.returns-clause-complete
returns-clause-complete c =
    let h = c.loop-node.invariant in
    let n = h.nodes_are in
    complete_by c.loop-node.search h.held h.idle (λ v lt. h.seen v (omega (arith, lt, n)))
