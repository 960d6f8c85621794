use Rattle.std.proofs.Common.{rules, sym, ◌∙◌, ◌≡◌, ◌+◌, ◌<◌, ℕ, ap, subst, length, List, arith, inr}
use Rattle.std.proofs.lemmas.List.{length_push}
use Rattle.ecd_graph.specs.declared.search.Mark.TheVariants.{Unseen, Open}
use Rattle.ecd_graph.specs.Graphs.{Reaches}
use Rattle.ecd_graph.specs.Searches.{mark, slot, IsOn}
use Rattle.ecd_graph.proofs.Reaching.{reaches_over, open_unseen, read_mark}
use Rattle.ecd_graph.proofs.Entering.{keeps, still_on, comes_behind}
use Rattle.ecd_graph.proofs.search.Search.meet.Goals as goal

pub enter-requires-clause-reached : goal.enter-requires-clause-reached
enter-requires-clause-reached c =
    let b = c.requires.leads in
    let s = c.args.self.now in
    λ i lt. subst (λ (v : ℕ). Reaches s.edges.now (slot s.pending.items i) v) b.to (reaches_over _ _ _ _ _ _ _ c.requires.held b.last b.place b.number b.edge b.size b.at_top b.stands b.from i lt)

pub join-requires-clause-back : goal.join-requires-clause-back
join-requires-clause-back c = record { target = c.args.target; leads = c.requires.leads; open_there = read_mark c.args.self.now.marks.items c.args.target c.index.result.now (Open c.in-Open.place) c.requires.among (search rules) c.in-Open.is }

pub returns-in_ok-enter-in-Unseen-clause-met : goal.returns-in_ok-enter-in-Unseen-clause-met
returns-in_ok-enter-in-Unseen-clause-met c =
    let b = c.requires.leads in
    let t = c.requires.top in
    let s = c.args.self.now in
    let e = c.in_ok-enter-in-Unseen.ensures.entered in
    let last : b.last ≡ t.last = let x = b.size in let y = t.size in omega (arith, x, y) in
    let is_open : mark s.marks.items c.args.node ≡ Open b.place = ap (mark s.marks.items) (sym t.is ∙ ap (slot s.path.items) (sym last)) ∙ b.at_top in
    let unseen = read_mark s.marks.items c.args.target c.index.result.now Unseen c.requires.among (search rules) c.in-Unseen.is in
    let reached = λ (i : ℕ) (lt : i < length s.pending.items). subst (λ (v : ℕ). Reaches s.edges.now (slot s.pending.items i) v) b.to (reaches_over _ _ _ _ _ _ _ c.requires.held b.last b.place b.number b.edge b.size b.at_top b.stands b.from i lt) in
    let longer : length c.enter.new.self.path.items ≡ length s.path.items + 1 = ap length e.path ∙ length_push s.path.items c.args.target in
    let on = still_on _ _ _ _ _ _ _ c.requires.held c.args.target c.requires.among unseen reached t.last c.args.node (let y = t.size in omega (arith, y)) t.is in
    record {
      cursors = e.cursors;
      path = omega (arith, longer);
      place = b.place;
      is_open = subst (λ ms. mark ms c.args.node ≡ Open b.place) (sym e.marks) (keeps _ _ _ _ _ _ _ c.requires.held c.args.target c.requires.among unseen reached c.args.node (Open b.place) is_open (open_unseen b.place));
      on = subst (λ (ps : List ℕ). IsOn ps c.args.node) (sym e.path) on;
      behind = rw (e.marks, e.roots) (comes_behind _ _ _ _ _ _ _ c.requires.held c.args.target c.requires.among unseen reached b.place);
    }

pub returns-in-Open-clause-met : goal.returns-in-Open-clause-met
returns-in-Open-clause-met c =
    let b = c.requires.leads in
    let t = c.requires.top in
    let s = c.args.self.now in
    let j = c.join.ensures.joined in
    let there = read_mark s.marks.items c.args.target c.index.result.now (Open c.in-Open.place) c.requires.among (search rules) c.in-Open.is in
    let last : b.last ≡ t.last = let x = b.size in let y = t.size in omega (arith, x, y) in
    let is_open : mark s.marks.items c.args.node ≡ Open b.place = ap (mark s.marks.items) (sym t.is ∙ ap (slot s.path.items) (sym last)) ∙ b.at_top in
    let on : IsOn s.path.items c.args.node = (t.last, let y = t.size in omega (arith, y), t.is) in
    record {
      cursors = j.cursors;
      path = let p : length c.join.new.self.path.items ≡ length s.path.items = ap length j.path in omega (arith, p);
      place = b.place;
      is_open = subst (λ ms. mark ms c.args.node ≡ Open b.place) (sym j.marks) is_open;
      on = subst (λ (ps : List ℕ). IsOn ps c.args.node) (sym j.path) on;
      behind = inr (c.in-Open.place, subst (λ ms. mark ms c.args.target ≡ Open c.in-Open.place) (sym j.marks) there, λ k lt before. j.begun k lt);
    }
