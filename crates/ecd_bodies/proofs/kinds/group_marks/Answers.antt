use Rattle.std.proofs.Common.{◌≡◌, ◌↔◌, ℕ, suc, List, Bool, ◌++◌, length, ◌∙◌, sym, ap, subst}
use Rattle.std.specs.Prelude.{flat_map}
use Rattle.ecd_graph.specs.Graphs.{IsMarked}
use Rattle.ecd_bodies.specs.Numbers.{first_in}
use Rattle.ecd_bodies.specs.Causes.{edges_of_rule}
use Rattle.ecd_bodies.proofs.Judged.{gathered_edges, among_source, is_judged}
use Rattle.ecd_bodies.proofs.kinds.group_marks.Goals as goal

pub reached-requires : goal.reached-requires
reached-requires c =
    let of_rule = edges_of_rule (first_in c.args.numbers.now.entries) c.args.count in
    let first = c.in_ok-add_edges.ensures ∙ ap (λ l. l ++ flat_map of_rule c.args.prelude.now) c.new-edges.ensures.items in
    let edges = c.as_slice.ensures.value ∙ gathered_edges c.args.numbers.now.entries c.args.count c.args.prelude.now c.args.text.now c.add_edges.new.edges.items c.add_edges-2.new.edges.items first c.in_ok-add_edges-2.ensures in
    let nodes : length c.as_slice-2.result.now ≡ suc c.args.count = ap length c.as_slice-2.ensures.value ∙ c.in_ok-marked.ensures.nodes in
    among_source c.args.numbers.now.entries c.args.count c.args.prelude.now c.args.text.now c.requires.prelude c.requires.counted c.requires.numbered c.as_slice.result.now c.as_slice-2.result.now edges nodes

pub returns-clause-judged : goal.returns-clause-judged
returns-clause-judged c =
    let of_rule = edges_of_rule (first_in c.args.numbers.now.entries) c.args.count in
    let first = c.in_ok-add_edges.ensures ∙ ap (λ l. l ++ flat_map of_rule c.args.prelude.now) c.new-edges.ensures.items in
    let edges = c.as_slice.ensures.value ∙ gathered_edges c.args.numbers.now.entries c.args.count c.args.prelude.now c.args.text.now c.add_edges.new.edges.items c.add_edges-2.new.edges.items first c.in_ok-add_edges-2.ensures in
    let marked : (v : ℕ) → IsMarked c.as_slice-2.result.now v ↔ (v ≡ c.args.count) = λ v. subst (λ (l : List Bool). IsMarked l v ↔ (v ≡ c.args.count)) (sym c.as_slice-2.ensures.value) (c.in_ok-marked.ensures.marked v) in
    is_judged c.args.numbers.now.entries c.args.count c.args.prelude.now c.args.text.now c.requires.prelude c.requires.counted c.requires.numbered c.as_slice.result.now c.as_slice-2.result.now c.in_ok-groups.groups.items edges marked c.in_ok-groups.ensures.reached
