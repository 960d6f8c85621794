-- Walks in a graph, and what is known of a search's nodes.
use Rattle.std.proofs.Common.{◌≡◌, ℕ, zero, suc, ◌-◌, ◌<◌, ◌≤◌, List, length, get_or, arith, refl, sym, ◌∙◌, ap, subst, inl, inr}
use Rattle.std.specs.Prelude.{slice_get, Some}
use Rattle.std.proofs.lemmas.Bool.{cases_lt}
use Rattle.std.proofs.lemmas.List.{get_or_read}
use Rattle.std.proofs.lemmas.Option.{slice_get_within, get_or_from_slice_get}
use Rattle.ecd_graph.specs.declared.edge.Edge.{Edge}
use Rattle.ecd_graph.specs.declared.search.Mark.{Mark}
use Rattle.ecd_graph.specs.declared.search.Mark.TheVariants.{Unseen, Open, Done}
use Rattle.ecd_graph.specs.Graphs.{Walks, Reaches}
use Rattle.ecd_graph.specs.Searches.{mark, slot, NoneBegins, Searched}

pub reaches_itself : (edges : List Edge) (a : ℕ) → Reaches edges a a
reaches_itself edges a = record { steps = 0; walk = refl }

pub reaches_by : (edges : List Edge) (e : ℕ) (x : Edge) → slice_get edges e ≡ Some x → Reaches edges x.from x.to
reaches_by edges e x h = record { steps = 1; walk = (x.to, (e, h), refl) }

walks_on : (edges : List Edge) (n a b c : ℕ) → Walks edges n a b → Reaches edges b c → Reaches edges a c
walks_on edges zero a b c h r = subst (λ (x : ℕ). Reaches edges x c) (sym h) r
walks_on edges (suc n) a b c h r =
    let rest : Reaches edges h.0 c = walks_on edges n h.0 b c h.2 r in
    record { steps = suc rest.steps; walk = (h.0, h.1, rest.walk) }

pub reaches_on : (edges : List Edge) (a b c : ℕ) → Reaches edges a b → Reaches edges b c → Reaches edges a c
reaches_on edges a b c h r = walks_on edges h.steps a b c h.walk r

-- ---- marks

pub open_unseen : (i : ℕ) → Open i ≡ Unseen → ⊥
open_unseen i h = cc

pub done_unseen : (i : ℕ) → Done i ≡ Unseen → ⊥
done_unseen i h = cc

pub open_done : (i c : ℕ) → Open i ≡ Done c → ⊥
open_done i c h = cc

pub one_place : (i j : ℕ) → Open i ≡ Open j → i ≡ j
one_place i j h = cc

pub one_number : (i j : ℕ) → Done i ≡ Done j → i ≡ j
one_number i j h = cc

-- ---- the top of a search

module _ (edges : List Edge) (marks : List Mark) (cursors pending roots path : List ℕ) (count : ℕ) (s : Searched edges marks cursors pending roots path count) where
  -- components begin at open places
  pub root_below : (k : ℕ) → k < length roots → slot roots k < length pending
  root_below k lt = let r = s.rooted k lt in (s.stands (slot path r.0) (slot roots k) r.2).0

  -- and no later than the last node of the path
  pub root_under : (p i : ℕ) → suc p ≡ length path → mark marks (slot path p) ≡ Open i → (k : ℕ) → k < length roots → slot roots k ≤ i
  root_under p i last is k lt =
      let r = s.rooted k lt in
      elim (cases_lt r.0 p) [
        | inl before ↦
            let less : slot roots k < i = s.climbs r.0 p (slot roots k) i before (omega (arith, last)) r.2 is in
            omega (arith, less)
        | inr behind ↦
            let same : r.0 ≡ p = omega (arith, last, r.1, behind) in
            let both : Open (slot roots k) ≡ Open i = sym r.2 ∙ (ap (λ (q : ℕ). mark marks (slot path q)) same ∙ is) in
            let equal : slot roots k ≡ i = one_place (slot roots k) i both in
            omega (arith, equal)
      ]

  -- every open node reaches the last node of the path
  pub reaches_top : (p i : ℕ) → suc p ≡ length path → mark marks (slot path p) ≡ Open i → (j : ℕ) → j < length pending → Reaches edges (slot pending j) (slot pending i)
  reaches_top p i last is j lt =
      let there = s.stands (slot path p) i is in
      elim (cases_lt i j) [
        | inl behind ↦
            let none : NoneBegins roots i j = λ k below above. let under : slot roots k ≤ i = root_under p i last is k below in omega (arith, above, under) in
            s.up i j (omega (arith, behind)) lt none
        | inr before ↦ s.down j i before there.0
      ]

module _ (edges : List Edge) (marks : List Mark) (cursors pending roots path : List ℕ) (count : ℕ) (s : Searched edges marks cursors pending roots path count) where
  -- every open node reaches what an edge of the last node of the path leads to
  pub reaches_over : (last i e : ℕ) (x : Edge) → suc last ≡ length path → mark marks (slot path last) ≡ Open i → slice_get edges e ≡ Some x → x.from ≡ slot path last →
      (a : ℕ) → a < length pending → Reaches edges (slot pending a) x.to
  reaches_over last i e x size at_top stands from a lt =
      let top = s.stands (slot path last) i at_top in
      let first : Reaches edges (slot pending a) (slot path last) = subst (λ (v : ℕ). Reaches edges (slot pending a) v) top.1 (reaches_top edges marks cursors pending roots path count s last i size at_top a lt) in
      let step : Reaches edges (slot path last) x.to = subst (λ (v : ℕ). Reaches edges v x.to) from (reaches_by edges e x stands) in
      reaches_on edges (slot pending a) (slot path last) x.to first step

-- ---- the last of some numbers

pub at_end : (xs : List ℕ) (x : ℕ) → Some x ≡ slice_get xs (length xs - 1) → (suc (length xs - 1) ≡ length xs) × (slot xs (length xs - 1) ≡ x)
at_end xs x h =
    let within : length xs - 1 < length xs = slice_get_within xs (length xs - 1) x (sym h) in
    (omega (arith, within), get_or_from_slice_get xs (length xs - 1) x 0 (sym h))

-- what begins with the last of ascending numbers begins with all
pub begun_by : (roots : List ℕ) (place k : ℕ) → ((a b : ℕ) → a < b → b < length roots → slot roots a < slot roots b) → suc k ≡ length roots → slot roots k ≤ place → (c : ℕ) → c < length roots → slot roots c ≤ place
begun_by roots place k ascends final le c lt = elim (cases_lt c k) [
  | inl before ↦ let less : slot roots c < slot roots k = ascends c k before (omega (arith, final)) in omega (arith, less, le)
  | inr back ↦
      let it : c ≡ k = omega (arith, back, lt, final) in
      let same : slot roots c ≡ slot roots k = ap (slot roots) it in
      omega (arith, same, le)
]

-- what is read of a list
pub read_mark : (marks : List Mark) (v : ℕ) (x m : Mark) → v < length marks → x ≡ get_or marks v x → x ≡ m → mark marks v ≡ m
read_mark marks v x m lt h is = sym (get_or_read marks v x lt h Unseen) ∙ is

pub read_slot : (xs : List ℕ) (i x : ℕ) → i < length xs → x ≡ get_or xs i x → slot xs i ≡ x
read_slot xs i x lt h = sym (get_or_read xs i x lt h 0)
