use Rattle.std.proofs.Common.{rules, sym, ◌∙◌, ◌≡◌, ◌-◌, ◌≤◌, ◌<◌, ℕ, ap, subst, length, take, List}
use Rattle.std.specs.Prelude.{slice_get}
use Rattle.ecd_graph.specs.Searches.{mark, slot, Searched}
use Rattle.ecd_graph.proofs.Reaching.{at_end, begun_by}
use Rattle.ecd_graph.proofs.Following.{joined}
use Rattle.ecd_graph.proofs.search.Search.join.Goals as goal

pub loop-root-preserved : goal.loop-root-preserved
loop-root-preserved c =
    let h = c.loop-root.invariant in
    let b = h.back.leads in
    let roots = c.loop-root.self.roots.items in
    let end = at_end roots c.in-Some.field-0.now (c.in-Some.ensures.value ∙ ap (λ xs. slice_get xs (length xs - 1)) c.deref.ensures.value) in
    let later : c.args.place < slot roots (length roots - 1) = subst (λ (r : ℕ). c.args.place < r) (sym end.1) c.if-root-place.false in
    let fewer : c.pop.new.self.items ≡ take (length roots - 1) roots = search rules in
    record {
      held = subst (λ (rs : List ℕ). Searched c.loop-root.self.edges.now c.loop-root.self.marks.items c.loop-root.self.cursors.items c.loop-root.self.pending.items rs c.loop-root.self.path.items c.loop-root.self.count) (sym fewer)
          (joined _ _ _ _ _ _ _ h.held b.last _ b.place c.args.place b.number b.edge b.size b.at_top b.stands b.from (ap (mark c.loop-root.self.marks.items) b.to ∙ h.back.open_there) end.0 later);
      back = record {
        target = h.back.target;
        leads = record { last = b.last; place = b.place; number = b.number; edge = b.edge; size = b.size; at_top = b.at_top; stands = b.stands; from = b.from; to = b.to };
        open_there = h.back.open_there;
      };
      edges_are = h.edges_are;
      previous_are = h.previous_are;
      marks_are = h.marks_are;
      cursors_are = h.cursors_are;
      pending_are = h.pending_are;
      path_is = h.path_is;
      count_is = h.count_is;
    }

pub returns-then-root-place-clause-joined : goal.returns-then-root-place-clause-joined
returns-then-root-place-clause-joined c =
    let h = c.loop-root.invariant in
    let roots = c.loop-root.self.roots.items in
    let end = at_end roots c.in-Some.field-0.now (c.in-Some.ensures.value ∙ ap (λ xs. slice_get xs (length xs - 1)) c.deref.ensures.value) in
    let under : slot roots (length roots - 1) ≤ c.args.place = subst (λ (r : ℕ). r ≤ c.args.place) (sym end.1) c.if-root-place.true in
    record {
      edges = h.edges_are;
      previous = h.previous_are;
      marks = h.marks_are;
      cursors = h.cursors_are;
      pending = h.pending_are;
      path = h.path_is;
      count = h.count_is;
      begun = begun_by roots c.args.place (length roots - 1) h.held.ascends end.0 under;
    }
