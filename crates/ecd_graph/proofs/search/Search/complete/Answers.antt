use Rattle.std.proofs.Common.{rules, sym, ◌∙◌, ◌≡◌, ◌+◌, ◌-◌, ℕ, ap, length, take, suc, List, arith}
use Rattle.ecd_graph.specs.declared.search.Mark.TheVariants.{Open}
use Rattle.ecd_graph.specs.Searches.{mark, slot}
use Rattle.ecd_graph.proofs.Leaving.{completed, was_unseen}
use Rattle.ecd_graph.proofs.search.Search.complete.Goals as goal

pub number_from-requires-clause-within : goal.number_from-requires-clause-within
number_from-requires-clause-within c =
    let there = c.requires.held.stands c.args.node c.args.place c.requires.placed in
    let lt = there.0 in
    omega (arith, lt)

pub returns-clause-held : goal.returns-clause-held
returns-clause-held c =
    let s = c.args.self.now in
    let t = c.requires.top in
    let n = c.number_from.ensures in
    let m = c.number_from.new.self in
    let at_top : mark s.marks.items (slot s.path.items t.last) ≡ Open c.args.place = ap (mark s.marks.items) t.is ∙ c.requires.placed in
    let done : slot s.cursors.items (slot s.path.items t.last) ≡ 0 = ap (slot s.cursors.items) t.is ∙ c.requires.spent in
    let some = c.requires.some in
    let final : suc (length s.roots.items - 1) ≡ length s.roots.items = omega (arith, some) in
    let root : slot s.roots.items (length s.roots.items - 1) ≡ c.args.place = c.requires.root (length s.roots.items - 1) final in
    let size : t.last ≡ length s.path.items - 1 = let z = t.size in omega (arith, z) in
    let roots : c.pop.new.self.items ≡ take (length m.roots.items - 1) m.roots.items = search rules in
    let path : c.pop-2.new.self.items ≡ take (length m.path.items - 1) m.path.items = search rules in
    let roots_are : c.pop.new.self.items ≡ take (length s.roots.items - 1) s.roots.items = roots ∙ ap (λ (rs : List ℕ). take (length rs - 1) rs) n.roots in
    let path_is : c.pop-2.new.self.items ≡ take t.last s.path.items = path ∙ (ap (λ (ps : List ℕ). take (length ps - 1) ps) n.path ∙ ap (λ (k : ℕ). take k s.path.items) (sym size)) in
    let count : c.in_ok-count.count ≡ s.count + 1 = search rules in
    rw (n.edges, n.cursors, n.pending, roots_are, path_is, count)
    (completed s.edges.now s.marks.items s.cursors.items s.pending.items s.roots.items s.path.items s.count c.requires.held t.last c.args.place t.size at_top done (length s.roots.items - 1) final root m.marks.items n.nodes n.numbers)

pub returns-clause-stays : goal.returns-clause-stays
returns-clause-stays c =
    let s = c.args.self.now in
    let t = c.requires.top in
    let n = c.number_from.ensures in
    let m = c.number_from.new.self in
    let at_top : mark s.marks.items (slot s.path.items t.last) ≡ Open c.args.place = ap (mark s.marks.items) t.is ∙ c.requires.placed in
    let done : slot s.cursors.items (slot s.path.items t.last) ≡ 0 = ap (slot s.cursors.items) t.is ∙ c.requires.spent in
    let some = c.requires.some in
    let final : suc (length s.roots.items - 1) ≡ length s.roots.items = omega (arith, some) in
    let root : slot s.roots.items (length s.roots.items - 1) ≡ c.args.place = c.requires.root (length s.roots.items - 1) final in
    record {
      edges = n.edges;
      previous = n.previous;
      nodes = n.nodes;
      seen = was_unseen s.edges.now s.marks.items s.cursors.items s.pending.items s.roots.items s.path.items s.count c.requires.held t.last c.args.place t.size at_top done (length s.roots.items - 1) final root m.marks.items n.nodes n.numbers;
    }
