-- The chains of edges, one edge on; and a search that has met no node.
use Rattle.std.proofs.Common.{◌≡◌, ℕ, ◌+◌, ◌<◌, List, [], ◌∷◌, ◌++◌, length, get_or, set, replicate, arith, refl, sym, ◌∙◌, ap, subst, inl, inr}
use Rattle.std.specs.Prelude.{slice_get, Some}
use Rattle.std.proofs.lemmas.Bool.{cases_lt, cases_eq}
use Rattle.std.proofs.lemmas.List.{get_or-set_same, get_or-set_other, get_or_append_left, get_or_push, length_push, length-replicate, get_or-replicate, get_or_past}
use Rattle.std.proofs.lemmas.Option.{slice_get_within}
use Rattle.ecd_graph.specs.declared.edge.Edge.{Edge}
use Rattle.ecd_graph.specs.declared.search.Mark.{Mark}
use Rattle.ecd_graph.specs.declared.search.Mark.TheVariants.{Unseen}
use Rattle.ecd_graph.specs.Chains.{IsFrom, IsLast, ArePrevious}
use Rattle.ecd_graph.specs.Searches.{mark, slot, Searched}
use Rattle.ecd_graph.proofs.Reaching.{open_unseen, done_unseen}

module _ (edges : List Edge) (nodes : ℕ) (last previous : List ℕ) (i : ℕ) (x : Edge) (stands : slice_get edges i ≡ Some x) (among : x.from < nodes)
    (many : length last ≡ nodes) (upto : length previous ≡ i) (ends : (v : ℕ) → v < nodes → IsLast edges v i (get_or last v 0)) (linked : ArePrevious edges previous) where
  one_edge : (y : Edge) → slice_get edges i ≡ Some y → x ≡ y
  one_edge y h =
      let both : Some x ≡ Some y = sym stands ∙ h in
      cc

  this_last : IsLast edges x.from (i + 1) (i + 1)
  this_last = record {
    below = omega arith;
    all = λ e from lt. lt;
    leads = λ e h.
        let it : e ≡ i = omega (arith, h) in
        subst (λ (j : ℕ). IsFrom edges j x.from) (sym it) (record { edge = x; stands = stands; from = refl });
  }

  other_last : (v : ℕ) → (v ≡ x.from → ⊥) → IsLast edges v i (get_or last v 0) → IsLast edges v (i + 1) (get_or last v 0)
  other_last v ne old = record {
    below = let b = old.below in omega (arith, b);
    all = λ e from lt. elim (cases_lt e i) [
      | inl before ↦ old.all e from before
      | inr not_before ↦
          let it : e ≡ i = omega (arith, not_before, lt) in
          let same : x ≡ from.edge = one_edge from.edge (ap (slice_get edges) (sym it) ∙ from.stands) in
          absurd (ne (sym from.from ∙ ap (λ (y : Edge). y.from) (sym same)))
    ];
    leads = old.leads;
  }

  pub ends_more : (v : ℕ) → v < nodes → IsLast edges v (i + 1) (get_or (set last x.from (i + 1)) v 0)
  ends_more v lt = elim (cases_eq v x.from) [
    | inl it ↦ subst (λ (w : ℕ). IsLast edges w (i + 1) (get_or (set last x.from (i + 1)) w 0)) (sym it)
        (subst (λ (l : ℕ). IsLast edges x.from (i + 1) l) (sym (get_or-set_same last x.from (i + 1) 0 (omega (arith, among, many)))) this_last)
    | inr ne ↦ subst (λ (l : ℕ). IsLast edges v (i + 1) l) (sym (get_or-set_other last x.from v (i + 1) 0 ne)) (other_last v ne (ends v lt))
  ]

  pub linked_more : ArePrevious edges (previous ++ get_or last x.from 0 ∷ [])
  linked_more e y h lt = elim (cases_lt e i) [
    | inl before ↦
        let within : e < length previous = omega (arith, before, upto) in
        subst (λ (l : ℕ). IsLast edges y.from e l) (sym (get_or_append_left previous (get_or last x.from 0 ∷ []) 0 e within)) (linked e y h within)
    | inr not_before ↦
        let it : i ≡ e = omega (arith, not_before, lt, upto, length_push previous (get_or last x.from 0)) in
        let same : x ≡ y = one_edge y (ap (slice_get edges) it ∙ h) in
        subst (λ (l : ℕ). IsLast edges y.from e l) (sym (get_or_push previous (get_or last x.from 0) 0 e (upto ∙ it)))
        (subst (λ (z : Edge). IsLast edges z.from e (get_or last x.from 0)) same (subst (λ (j : ℕ). IsLast edges x.from j (get_or last x.from 0)) it (ends x.from among)))
  ]

pub nothing_met : (edges : List Edge) (marks : List Mark) (cursors pending roots path : List ℕ) → ((v : ℕ) → mark marks v ≡ Unseen) → length cursors ≡ length marks →
    ((v : ℕ) → v < length marks → IsLast edges v (length edges) (slot cursors v)) → pending ≡ [] → roots ≡ [] → path ≡ [] → Searched edges marks cursors pending roots path 0
nothing_met edges marks cursors pending roots path none each last no_pending no_roots no_path = rw (no_pending, no_roots, no_path) (record {
  pointed = each;
  placed = λ i lt. absurd (omega (arith, lt));
  stands = λ v i h. absurd (open_unseen i (sym h ∙ none v));
  down = λ i j le lt. absurd (omega (arith, lt));
  up = λ i j le lt free. absurd (omega (arith, lt));
  ascends = λ a b less lt. absurd (omega (arith, lt));
  begins = λ some. absurd (omega (arith, some));
  rooted = λ k lt. absurd (omega (arith, lt));
  goes = λ p lt. absurd (omega (arith, lt));
  climbs = λ a b i j less lt first second. absurd (omega (arith, lt));
  spent = λ v i h. absurd (open_unseen i (sym h ∙ none v));
  fresh = λ v e lt h from. (last v lt).all e from (slice_get_within edges e from.edge from.stands);
  leads = λ v e h. elim (cases_lt v (length marks)) [
    | inl lt ↦ (last v lt).leads e h
    | inr past ↦
        let zero_there : slot cursors v ≡ 0 = get_or_past cursors v 0 (omega (arith, past, each)) in
        absurd (omega (arith, zero_there, h))
  ];
  followed = λ v i e x h there from past. absurd (open_unseen i (sym h ∙ none v));
  numbered = λ v c h. absurd (done_unseen c (sym h ∙ none v));
  closed = λ e c x there h. absurd (done_unseen c (sym h ∙ none x.from));
  together = λ v w c h g. absurd (done_unseen c (sym h ∙ none v));
})

pub none_met : (n v : ℕ) → mark (replicate n Unseen) v ≡ Unseen
none_met n v = elim (cases_lt v n) [
  | inl within ↦ get_or-replicate n v Unseen Unseen within
  | inr past ↦ get_or_past (replicate n Unseen) v Unseen (omega (arith, past, length-replicate n Unseen))
]
