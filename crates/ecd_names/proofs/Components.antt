-- The strongly connected components of names, and names that reach those that use them.
use Rattle.std.proofs.Common.{ℕ, suc, ◌≡◌, ◌≢◌, ◌<◌, ◌↔◌, false, List, length, get_or, refl, ap, sym, ◌∙◌, subst, arith}
use Rattle.std.specs.Prelude.{Option, Some, None}
use Rattle.ecd_graph.specs.declared.edge.Edge.{Edge}
use Rattle.ecd_graph.specs.Graphs.{IsEdge, Reaches, AreAmong, NumbersComponents, AreInOrder}
use Rattle.ecd_syntax.specs.declared.tree.Rule.{Rule}
use Rattle.ecd_bodies.specs.Named.{all_rules, first_of, is_parameter}
use Rattle.ecd_bodies.specs.Reaching.{Uses, ReachesName, IsRanked}
use Rattle.ecd_names.specs.Breaks.{IsRecursive}
use Rattle.ecd_names.specs.Edges.{edges_of, AreComponents}
use Rattle.ecd_names.specs.Laws.{NoThirdIsRanked}
use Rattle.ecd_names.specs.Scenes.{AreInOneComponent}
use Rattle.ecd_names.proofs.Cycles.{never-back}
use Rattle.ecd_names.proofs.Ranking.{IsRanking, has-ranking}
use Rattle.ecd_names.proofs.Walking.{some_same, element_at, at_element}
use Rattle.ecd_names.proofs.Nodes.{node-named, node-below, node-of}
use Rattle.ecd_names.proofs.Graphs.{AreNodes, use-edge, edge-use, name-reached, node-reached, start-node}

module _ (text : List Rule) where
  one-node : (a b : List ℕ) (n : ℕ) → first_of text a ≡ Some n → first_of text b ≡ Some n → a ≡ b
  one-node a b n e f =
      let x = node-named (all_rules text) a n e in
      let y = node-named (all_rules text) b n f in
      sym x.2 ∙ (ap (λ (r : Rule). r.name.text) (some_same (sym x.1 ∙ y.1)) ∙ y.2)

  node-starts : (a b : List ℕ) → Uses text a b → (n : ℕ) × (first_of text a ≡ Some n)
  node-starts a b u = let n = node-of (all_rules text) u.rule u.among in (n.0, ap (first_of text) (sym u.named) ∙ n.1)

  node-edged : (a b : List ℕ) (x y : ℕ) → Uses text a b → first_of text a ≡ Some x → first_of text b ≡ Some y → IsEdge (edges_of text) x y
  node-edged a b x y u e f =
      at_element (edges_of text) (record { from = x; to = y })
      (edge-use (first_of text) (all_rules text) u.rule u.name u.args u.asked x y u.among u.used (ap (first_of text) u.named ∙ e) (ap (first_of text) u.is ∙ f))

  node-used : (x y : ℕ) → IsEdge (edges_of text) x y → (a : List ℕ) × (b : List ℕ) × Uses text a b × (first_of text a ≡ Some x) × (first_of text b ≡ Some y)
  node-used x y e =
      let u = use-edge (first_of text) (all_rules text) x y (element_at (edges_of text) e.0 (record { from = x; to = y }) e.1) in
      (u.rule.name.text, u.name.text, record { rule = u.rule; among = u.among; named = refl; name = u.name; args = u.args; asked = u.asked; used = u.used; is = refl }, u.starts, u.ends)

  pub are-nodes : AreNodes text (edges_of text) (first_of text)
  are-nodes = record { one = one-node; starts = node-starts; edged = node-edged; used = node-used }

  pub ends-among : AreAmong (length (all_rules text)) (edges_of text)
  ends-among e x stands =
      let u = use-edge (first_of text) (all_rules text) x.from x.to (element_at (edges_of text) e x stands) in
      (node-below (all_rules text) u.rule.name.text x.from u.starts, node-below (all_rules text) u.name.text x.to u.ends)

  -- where no use leads back, no node reaches one with an edge to it
  never-round : ((a b : List ℕ) → Uses text a b → ReachesName text b a → ⊥) → (x y : ℕ) → IsEdge (edges_of text) x y → Reaches (edges_of text) y x → ⊥
  never-round never x y edge back =
      let u = node-used x y edge in
      never u.0 u.1 u.2 (name-reached text (edges_of text) (first_of text) are-nodes y x u.1 u.0 u.4 u.3 back)

  -- a ranking of nodes is one of names; what has no node comes first
  module _ (rank : ℕ → ℕ) (ranking : IsRanking (edges_of text) rank) where
    abbrev rank_of : Option ℕ → ℕ
    rank_of None = 0
    rank_of (Some n) = suc (rank n)

    falls-by : (a b : List ℕ) (x : ℕ) (o : Option ℕ) → Uses text a b → first_of text a ≡ Some x → first_of text b ≡ o → rank_of o < suc (rank x)
    falls-by a b x None u e f = omega arith
    falls-by a b x (Some y) u e f = omega (arith, ranking.falls x y (node-edged a b x y u e f))

    names-fall : (a b : List ℕ) → Uses text a b → rank_of (first_of text b) < rank_of (first_of text a)
    names-fall a b u =
        let x = node-starts a b u in
        subst (λ (o : Option ℕ). rank_of (first_of text b) < rank_of o) (sym x.1) (falls-by a b x.0 (first_of text b) u x.1 refl)

    names-ranked : IsRanked text
    names-ranked = record { rank = λ name. rank_of (first_of text name); falls = names-fall }

  pub graph-ranked : ((a b : List ℕ) → Uses text a b → ReachesName text b a → ⊥) → IsRanked text
  graph-ranked never = let r = has-ranking (edges_of text) (never-round never) in names-ranked r.rank r.is

pub third-ranked : NoThirdIsRanked
third-ranked text none = graph-ranked text (never-back text none)

module _ (text : List Rule) (numbers : List ℕ) (are : AreComponents text numbers) where
  use-reaches : (a b : List ℕ) (x y : ℕ) → Uses text a b → first_of text a ≡ Some x → first_of text b ≡ Some y → Reaches (edges_of text) x y
  use-reaches a b x y u e f = record { steps = 1; walk = (y, node-edged text a b x y u e f, refl) }

  -- a use leads back where both names are in one component
  pub component-back : (a b : List ℕ) (x y : ℕ) → Uses text a b → first_of text a ≡ Some x → first_of text b ≡ Some y → (get_or numbers x 0 ≡ get_or numbers y 0) ↔ ReachesName text b a
  component-back a b x y u e f =
      let both = are.components x y (node-below (all_rules text) a x e) (node-below (all_rules text) b y f) in (
        λ same. name-reached text (edges_of text) (first_of text) (are-nodes text) y x b a f e (both.0 same).1,
        λ back. both.1 (use-reaches a b x y u e f, node-reached text (edges_of text) (first_of text) (are-nodes text) y x b a f e back),
      )

  -- what has no rule reaches nothing
  pub none-back : (a b : List ℕ) → Uses text a b → first_of text b ≡ None → ReachesName text b a → ⊥
  none-back a b u e back =
      let x = node-starts text a b u in
      let y = start-node text (edges_of text) (first_of text) (are-nodes text) b a x.0 x.1 back in
      let bad : None ≡ Some y.0 = sym e ∙ y.1 in absurd cc

  -- a rule's use leads back where its name and the rule's are in one component
  pub component-recursive : (rule : Rule) (first name : List ℕ) → first ≡ rule.name.text → is_parameter rule.params name ≡ false → Uses text rule.name.text name → (AreInOneComponent text numbers first name → IsRecursive text rule name) × (IsRecursive text rule name → AreInOneComponent text numbers first name)
  component-recursive rule first name same free u = (to, λ r. by_node (first_of text name) refl r.back)
    where
      to : AreInOneComponent text numbers first name → IsRecursive text rule name
      to h = record { free = free; back = (component-back rule.name.text name h.first h.second u (ap (first_of text) (sym same) ∙ h.first_is) h.second_is).0 h.same }

      by_node : (o : Option ℕ) → first_of text name ≡ o → ReachesName text name rule.name.text → AreInOneComponent text numbers first name
      by_node None e back = absurd (none-back rule.name.text name u e back)
      by_node (Some y) e back =
          let x = node-starts text rule.name.text name u in
          record { first = x.0; second = y; first_is = ap (first_of text) same ∙ x.1; second_is = e; same = (component-back rule.name.text name x.0 y u x.1 e).1 back }

  abbrev rank : Option ℕ → ℕ
  rank None = 0
  rank (Some n) = suc (get_or numbers n 0)

  -- where no use leads back, the numbers of the components are a ranking
  pub components-rank : ((a b : List ℕ) → Uses text a b → ReachesName text b a → ⊥) → IsRanked text
  components-rank never = record { rank = λ name. rank (first_of text name); falls = falls }
    where
      by_node : (a b : List ℕ) (x : ℕ) (o : Option ℕ) → Uses text a b → first_of text a ≡ Some x → first_of text b ≡ o → rank o < suc (get_or numbers x 0)
      by_node a b x None u e f = omega arith
      by_node a b x (Some y) u e f =
          let le = are.order x y (node-below (all_rules text) a x e) (node-below (all_rules text) b y f) (use-reaches a b x y u e f) in
          let apart : get_or numbers x 0 ≢ get_or numbers y 0 = λ same. never a b u ((component-back a b x y u e f).0 same) in
          omega (arith, le, apart)

      falls : (a b : List ℕ) → Uses text a b → rank (first_of text b) < rank (first_of text a)
      falls a b u =
          let x = node-starts text a b u in
          subst (λ (o : Option ℕ). rank (first_of text b) < rank o) (sym x.1) (by_node a b x.0 (first_of text b) u x.1 refl)

-- the numbers of the components of this graph
pub are-components : (text : List Rule) (count : ℕ) (edges : List Edge) (numbers : List ℕ) → count ≡ length (all_rules text) → edges ≡ edges_of text → length numbers ≡ count → NumbersComponents count edges numbers → AreInOrder count edges numbers → AreComponents text numbers
are-components text count edges numbers c e l components order = record {
  each = l ∙ c;
  components = subst (λ (n : ℕ). NumbersComponents n (edges_of text) numbers) c (subst (λ (g : List Edge). NumbersComponents count g numbers) e components);
  order = subst (λ (n : ℕ). AreInOrder n (edges_of text) numbers) c (subst (λ (g : List Edge). AreInOrder count g numbers) e order);
}
