use Rattle.std.proofs.Common.{rules, refl, sym, ◌∙◌, ◌≡◌, ◌+◌, ◌<◌, ℕ, ap, subst, length, suc, arith}
use Rattle.std.proofs.lemmas.List.{take_all, length_push, length-set}
use Rattle.ecd_graph.specs.declared.search.Mark.TheVariants.{Open, Done}
use Rattle.ecd_graph.specs.Searches.{mark, Numbers}
use Rattle.ecd_graph.proofs.Completing.{none_numbered, one_numbered, open_within, shorter_front}
use Rattle.ecd_graph.proofs.search.Search.number_from.Goals as goal

pub loop-self-init : goal.loop-self-init
loop-self-init c = record {
  edges_are = refl;
  previous_are = refl;
  nodes_are = refl;
  cursors_are = refl;
  roots_are = refl;
  path_is = refl;
  count_is = refl;
  within = omega arith;
  left = sym (take_all (length c.args.self.now.pending.items) c.args.self.now.pending.items (omega arith));
  not_before = c.requires.within;
  numbers = none_numbered c.args.self.now.marks.items c.args.self.now.pending.items c.requires.stands c.args.self.now.count;
}

pub index_mut-requires : goal.index_mut-requires
index_mut-requires c =
    let h = c.loop-self.invariant in
    let q = c.pop.new.self.items in
    let f = shorter_front c.args.self.now.pending.items c.loop-self.self.pending.items q c.in-Some.node c.in-Some.ensures.items h.left in
    let long : length c.loop-self.self.pending.items ≡ length q + 1 = ap length c.in-Some.ensures.items ∙ length_push q c.in-Some.node in
    let within = h.within in
    let nodes = h.nodes_are in
    let is : mark c.args.self.now.marks.items c.in-Some.node ≡ Open (length q) = ap (mark c.args.self.now.marks.items) (sym f.1) ∙ c.requires.placed (length q) (omega (arith, long, within)) in
    let among : c.in-Some.node < length c.args.self.now.marks.items = open_within c.args.self.now.marks.items c.in-Some.node (length q) is in
    let there : c.in-Some.node < length c.loop-self.self.marks.items = omega (arith, among, nodes) in
    search (rules, there)

pub loop-self-preserved-in-Some : goal.loop-self-preserved-in-Some
loop-self-preserved-in-Some c =
    let h = c.loop-self.invariant in
    let q = c.pop.new.self.items in
    let f = shorter_front c.args.self.now.pending.items c.loop-self.self.pending.items q c.in-Some.node c.in-Some.ensures.items h.left in
    let long : length c.loop-self.self.pending.items ≡ length q + 1 = ap length c.in-Some.ensures.items ∙ length_push q c.in-Some.node in
    let within = h.within in
    let is : mark c.args.self.now.marks.items c.in-Some.node ≡ Open (length q) = ap (mark c.args.self.now.marks.items) (sym f.1) ∙ c.requires.placed (length q) (omega (arith, long, within)) in
    let more : c.args.place < length c.loop-self.self.pending.items = let t = c.loop-self-test.true in search rules in
    let numbers : Numbers c.args.self.now.marks.items c.loop-self.self.marks.items (suc (length q)) c.args.self.now.count = subst (λ (n : ℕ). Numbers c.args.self.now.marks.items c.loop-self.self.marks.items n c.args.self.now.count) (omega (arith, long)) h.numbers in
    record {
      edges_are = h.edges_are;
      previous_are = h.previous_are;
      nodes_are = length-set c.loop-self.self.marks.items c.in-Some.node (Done c.loop-self.self.count) ∙ h.nodes_are;
      cursors_are = h.cursors_are;
      roots_are = h.roots_are;
      path_is = h.path_is;
      count_is = h.count_is;
      within = omega (arith, long, within);
      left = f.0;
      not_before = omega (arith, long, more);
      numbers = rw h.count_is (one_numbered c.args.self.now.marks.items c.args.self.now.pending.items c.requires.stands c.loop-self.self.marks.items (length q) c.in-Some.node c.args.self.now.count h.nodes_are is numbers);
    }
