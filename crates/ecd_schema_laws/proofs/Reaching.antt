-- Whether a node reaches another is decided, over the edges one by one.
use Rattle.std.proofs.Common.{ℕ, zero, suc, ◌≡◌, ◌⊎◌, inl, inr, List, [], ◌∷◌, refl, ap, sym, subst, arith}
use Rattle.std.specs.Prelude.{Some, slice_get}
use Rattle.std.proofs.lemmas.Bool.{cases_eq}
use Rattle.std.proofs.lemmas.Option.{slice_get_within}
use Rattle.ecd_graph.specs.declared.edge.Edge.{Edge}
use Rattle.ecd_graph.specs.Graphs.{Walks, Reaches}
use Rattle.ecd_graph.proofs.Reaching.{reaches_itself, reaches_by, reaches_on}
use Rattle.ecd_schema_laws.proofs.Deciding.{Decided, decided_as, decided_both, decided_either}

no_edges : (steps x y : ℕ) → Walks [] steps x y → x ≡ y
no_edges zero x y walk = walk
no_edges (suc steps) x y walk = absurd (let below = slice_get_within [] walk.1.0 (record { from = x; to = walk.0 }) walk.1.1 in omega (arith, below))

module _ (e : Edge) (es : List Edge) where
  -- past the edge, or along it once
  abbrev Goes : ℕ → ℕ → Type 0
  Goes x y = Reaches es x y ⊎ (Reaches es x e.from × Reaches es e.to y)

  walks_more : (steps x y : ℕ) → Walks es steps x y → Walks (e ∷ es) steps x y
  walks_more zero x y same = same
  walks_more (suc steps) x y walk = (walk.0, (suc walk.1.0, walk.1.1), walks_more steps walk.0 y walk.2)

  more : (x y : ℕ) → Reaches es x y → Reaches (e ∷ es) x y
  more x y r = record { steps = r.steps; walk = walks_more r.steps x y r.walk }

  reaches : (x y : ℕ) → Goes x y → Reaches (e ∷ es) x y
  reaches x y (inl r) = more x y r
  reaches x y (inr (r, s)) = reaches_on (e ∷ es) x e.from y (more x e.from r) (reaches_on (e ∷ es) e.from e.to y (reaches_by (e ∷ es) 0 e refl) (more e.to y s))

  step : (x c y n : ℕ) → slice_get (e ∷ es) n ≡ Some (record { from = x; to = c }) → Goes c y → Goes x y
  step x c y zero at goes = first (let same : e ≡ record { from = x; to = c } = cc in same) goes
    where
      begins : e ≡ record { from = x; to = c } → Reaches es x e.from
      begins is = subst (Reaches es x) (sym (ap (λ (n : Edge). n.from) is)) (reaches_itself es x)

      first : e ≡ record { from = x; to = c } → Goes c y → Goes x y
      first is (inl r) = inr (begins is, subst (λ (n : ℕ). Reaches es n y) (sym (ap (λ (n : Edge). n.to) is)) r)
      first is (inr (r, s)) = inr (begins is, s)
  step x c y (suc n) at (inl r) = inl (reaches_on es x c y (reaches_by es n (record { from = x; to = c }) at) r)
  step x c y (suc n) at (inr (r, s)) = inr (reaches_on es x c e.from (reaches_by es n (record { from = x; to = c }) at) r, s)

  goes : (steps x y : ℕ) → Walks (e ∷ es) steps x y → Goes x y
  goes zero x y same = inl (subst (Reaches es x) same (reaches_itself es x))
  goes (suc steps) x y walk = step x walk.0 y walk.1.0 walk.1.1 (goes steps walk.0 y walk.2)

pub decided_reaches : (es : List Edge) (x y : ℕ) → Decided (Reaches es x y)
decided_reaches [] x y = decided_as (λ same. subst (Reaches [] x) same (reaches_itself [] x)) (λ r. no_edges r.steps x y r.walk) (cases_eq x y)
decided_reaches (e ∷ es) x y =
    decided_as (reaches e es x y) (λ r. goes e es r.steps x y r.walk)
    (decided_either (decided_reaches es x y) (decided_both (decided_reaches es x e.from) (decided_reaches es e.to y)))
