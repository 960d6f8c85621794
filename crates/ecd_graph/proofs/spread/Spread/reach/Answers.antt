use Rattle.std.proofs.Common.{sym, ◌∙◌, ◌≡◌, ◌+◌, ◌<◌, ℕ, suc, ap, subst, length, List, get_or, set, arith, true, false, inl, inr}
use Rattle.std.proofs.lemmas.List.{get_or_read, length-set, length_push}
use Rattle.ecd_graph.specs.Graphs.{IsMarked, IsReached}
use Rattle.ecd_graph.specs.Searches.{slot}
use Rattle.ecd_graph.specs.Spreads.{IsClosedBut, unmarked}
use Rattle.ecd_graph.proofs.Spreading.{unmarked_set, set_stays, was_set, waits_more, closed_more}
use Rattle.ecd_graph.proofs.spread.Spread.reach.Goals as goal

pub returns-clause-held : goal.returns-clause-held
returns-clause-held c =
    let s = c.args.self.now in
    let pushed = c.in_ok-push.ensures.items in
    λ v link h. record {
      nodes = length-set s.reached.items c.args.node true ∙ h.nodes;
      kept = λ u m. set_stays s.reached.items c.args.node u (h.kept u m);
      sound = λ u m. elim (was_set s.reached.items c.args.node u m) [
        | inl it ↦ subst (λ (w : ℕ). IsReached s.edges.now s.marked.now w) (sym it) c.requires.reached
        | inr old ↦ h.sound u old
      ];
      waits = subst (λ (ps : List ℕ). (i : ℕ) → i < length ps → IsMarked (set s.reached.items c.args.node true) (slot ps i)) (sym pushed) (waits_more s.reached.items s.pending.items c.args.node c.requires.among h.waits);
      closed = subst (λ (ps : List ℕ). IsClosedBut s.edges.now (set s.reached.items c.args.node true) ps v link) (sym pushed) (closed_more s.edges.now s.reached.items s.pending.items c.args.node v link h.closed);
    }

pub returns-clause-work : goal.returns-clause-work
returns-clause-work c =
    let s = c.args.self.now in
    let pushed : length c.push.new.self.items ≡ length s.pending.items + 1 = ap length c.in_ok-push.ensures.items ∙ length_push s.pending.items c.args.node in
    let was : get_or s.reached.items c.args.node false ≡ false = sym (get_or_read s.reached.items c.args.node c.index.result.now c.requires.among c.index.ensures false) ∙ c.if-index.false in
    let less : suc (unmarked (set s.reached.items c.args.node true)) ≡ unmarked s.reached.items = unmarked_set s.reached.items c.args.node c.requires.among was in
    omega (arith, pushed, less)
