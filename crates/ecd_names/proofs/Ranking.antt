-- The nodes of a graph without a way round have a ranking.
use Rattle.std.proofs.Common.{ℕ, zero, suc, ◌+◌, ◌≡◌, ◌<◌, ◌⊎◌, inl, inr, Bool, true, false, ◌||◌, ◌&&◌, List, [], ◌∷◌, refl, sym, ◌∙◌, subst, arith}
use Rattle.std.specs.Prelude.{Some, slice_get, ◌==◌}
use Rattle.std.proofs.lemmas.Option.{slice_get_within}
use Rattle.std.proofs.lemmas.Bool.{and_from, and_parts, or_cases, or_left, or_right, eq-eqb, eqb-true}
use Rattle.ecd_graph.specs.declared.edge.Edge.{Edge}
use Rattle.ecd_graph.specs.Graphs.{IsEdge, Walks, Reaches}
use Rattle.ecd_names.proofs.Walking.{some_same}

-- ---- whether a node reaches another, over the edges one by one

abbrev reach : List Edge → ℕ → ℕ → Bool
reach [] x y = x == y
reach (e ∷ es) x y = reach es x y || (reach es x e.from && reach es e.to y)

reach-self : (es : List Edge) (x : ℕ) → reach es x x ≡ true
reach-self [] x = eq-eqb x x refl
reach-self (e ∷ es) x = or_left (reach es x x) (reach es x e.from && reach es e.to x) (reach-self es x)

no-edge : (x y : ℕ) → IsEdge [] x y → ⊥
no-edge x y edge = let below = slice_get_within [] edge.0 (record { from = x; to = y }) edge.1 in omega (arith, below)

-- what an edge leads to reaches no more than the node that it leads from
reach-step : (es : List Edge) (x z y : ℕ) → IsEdge es x z → reach es z y ≡ true → reach es x y ≡ true
reach-step [] x z y edge r = absurd (no-edge x z edge)
reach-step (e ∷ es) x z y edge r = by_place edge.0 edge.1 (or_cases (reach es z y) (reach es z e.from && reach es e.to y) r) (λ k stands w h. reach-step es x z w (k, stands) h)
  where
    round : reach es x e.from ≡ true → reach es e.to y ≡ true → reach (e ∷ es) x y ≡ true
    round a b = or_right (reach es x y) (reach es x e.from && reach es e.to y) (and_from (reach es x e.from) (reach es e.to y) a b)

    by_place : (k : ℕ) → slice_get (e ∷ es) k ≡ Some (record { from = x; to = z }) → (reach es z y ≡ true) ⊎ ((reach es z e.from && reach es e.to y) ≡ true) → ((k : ℕ) → slice_get es k ≡ Some (record { from = x; to = z }) → (w : ℕ) → reach es z w ≡ true → reach es x w ≡ true) → reach (e ∷ es) x y ≡ true
    by_place zero same (inl h) later =
        let is : e ≡ record { from = x; to = z } = some_same same in
        round (subst (λ (n : Edge). reach es x n.from ≡ true) (sym is) (reach-self es x)) (subst (λ (n : Edge). reach es n.to y ≡ true) (sym is) h)
    by_place zero same (inr h) later =
        let is : e ≡ record { from = x; to = z } = some_same same in
        round (subst (λ (n : Edge). reach es x n.from ≡ true) (sym is) (reach-self es x)) (and_parts (reach es z e.from) (reach es e.to y) h).1
    by_place (suc k) stands (inl h) later = or_left (reach es x y) (reach es x e.from && reach es e.to y) (later k stands y h)
    by_place (suc k) stands (inr h) later =
        let both = and_parts (reach es z e.from) (reach es e.to y) h in
        round (later k stands e.from both.0) both.1

-- ---- such a node is reached by a walk

walks-more : (e : Edge) (es : List Edge) (steps x y : ℕ) → Walks es steps x y → Walks (e ∷ es) steps x y
walks-more e es zero x y same = same
walks-more e es (suc steps) x y walk = (walk.0, (suc walk.1.0, walk.1.1), walks-more e es steps walk.0 y walk.2)

reaches-more : (e : Edge) (es : List Edge) (x y : ℕ) → Reaches es x y → Reaches (e ∷ es) x y
reaches-more e es x y r = record { steps = r.steps; walk = walks-more e es r.steps x y r.walk }

walks-then : (es : List Edge) (steps x y z : ℕ) → Walks es steps x y → Reaches es y z → Reaches es x z
walks-then es zero x y z same r = subst (λ n. Reaches es n z) (sym same) r
walks-then es (suc steps) x y z walk r =
    let rest = walks-then es steps walk.0 y z walk.2 r in
    record { steps = suc rest.steps; walk = (walk.0, walk.1, rest.walk) }

first_edge : (e : Edge) (es : List Edge) (y : ℕ) → Reaches (e ∷ es) e.to y → Reaches (e ∷ es) e.from y
first_edge e es y r = record { steps = suc r.steps; walk = (e.to, (zero, refl), r.walk) }

reach-reaches : (es : List Edge) (x y : ℕ) → reach es x y ≡ true → Reaches es x y
reach-reaches [] x y r = record { steps = zero; walk = eqb-true x y r }
reach-reaches (e ∷ es) x y r = by_cases (or_cases (reach es x y) (reach es x e.from && reach es e.to y) r) (reach-reaches es)
  where
    by_cases : (reach es x y ≡ true) ⊎ ((reach es x e.from && reach es e.to y) ≡ true) → ((a b : ℕ) → reach es a b ≡ true → Reaches es a b) → Reaches (e ∷ es) x y
    by_cases (inl h) sound = reaches-more e es x y (sound x y h)
    by_cases (inr h) sound =
        let both = and_parts (reach es x e.from) (reach es e.to y) h in
        let there = reaches-more e es x e.from (sound x e.from both.0) in
        walks-then (e ∷ es) there.steps x e.from y there.walk (first_edge e es y (reaches-more e es e.to y (sound e.to y both.1)))

-- ---- a ranking

pub record IsRanking (es : List Edge) (rank : ℕ → ℕ) : Type 0 where
  pub falls : (x y : ℕ) → IsEdge es x y → rank y < rank x

pub record HasRanking (es : List Edge) : Type 0 where
  pub rank : ℕ → ℕ
  pub is : IsRanking es rank

abbrev raised : Bool → ℕ → ℕ → ℕ
raised true n more = suc (n + more)
raised false n more = n

-- with one more edge, what reaches the node that it leads from is raised above the node that it leads to
module _ (e : Edge) (es : List Edge) (rank : ℕ → ℕ) (ranking : IsRanking es rank) (never : Reaches (e ∷ es) e.to e.from → ⊥) where
  abbrev above : ℕ → ℕ
  above x = raised (reach es x e.from) (rank x) (rank e.to)

  by_reach : (a b : Bool) (x y : ℕ) → reach es x e.from ≡ a → reach es y e.from ≡ b → IsEdge es x y → raised b (rank y) (rank e.to) < raised a (rank x) (rank e.to)
  by_reach true true x y p q edge = omega (arith, ranking.falls x y edge)
  by_reach true false x y p q edge = omega (arith, ranking.falls x y edge)
  by_reach false true x y p q edge = let bad : true ≡ false = sym (reach-step es x y e.from edge q) ∙ p in absurd cc
  by_reach false false x y p q edge = ranking.falls x y edge

  at_first : (a b : Bool) → reach es e.from e.from ≡ a → reach es e.to e.from ≡ b → raised b (rank e.to) (rank e.to) < raised a (rank e.from) (rank e.to)
  at_first a true p q = absurd (never (reaches-more e es e.to e.from (reach-reaches es e.to e.from q)))
  at_first false false p q = let bad : true ≡ false = sym (reach-self es e.from) ∙ p in absurd cc
  at_first true false p q = omega arith

  falls-more : (x y k : ℕ) → slice_get (e ∷ es) k ≡ Some (record { from = x; to = y }) → above y < above x
  falls-more x y zero same = subst (λ (n : Edge). above n.to < above n.from) (some_same same) (at_first (reach es e.from e.from) (reach es e.to e.from) refl refl)
  falls-more x y (suc k) stands = by_reach (reach es x e.from) (reach es y e.from) x y refl refl (k, stands)

  ranking-more : HasRanking (e ∷ es)
  ranking-more = record { rank = above; is = record { falls = λ x y edge. falls-more x y edge.0 edge.1 } }

pub has-ranking : (es : List Edge) → ((x y : ℕ) → IsEdge es x y → Reaches es y x → ⊥) → HasRanking es
has-ranking [] never = record { rank = λ x. 0; is = record { falls = λ x y edge. absurd (no-edge x y edge) } }
has-ranking (e ∷ es) never =
    let r = has-ranking es (λ x y edge back. never x y (suc edge.0, edge.1) (reaches-more e es y x back)) in
    ranking-more e es r.rank r.is (never e.from e.to (zero, refl))
