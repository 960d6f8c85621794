-- A node is opened.
use Rattle.std.proofs.Common.{◌≡◌, ℕ, ◌<◌, ◌≤◌, List, [], ◌∷◌, ◌++◌, length, set, arith, refl, sym, ◌∙◌, ap, subst, inl, inr, ◌⊎◌}
use Rattle.std.specs.Prelude.{slice_get, Some}
use Rattle.std.proofs.lemmas.Bool.{cases_lt, cases_eq}
use Rattle.std.proofs.lemmas.List.{get_or-set_same, get_or-set_other, get_or_append_left, get_or_push, length_push, length-set}
use Rattle.ecd_graph.specs.declared.edge.Edge.{Edge}
use Rattle.ecd_graph.specs.declared.search.Mark.{Mark}
use Rattle.ecd_graph.specs.declared.search.Mark.TheVariants.{Unseen, Open, Done}
use Rattle.ecd_graph.specs.Graphs.{Reaches}
use Rattle.ecd_graph.specs.Chains.{IsFrom}
use Rattle.ecd_graph.specs.Searches.{mark, slot, NoneBegins, IsBehind, IsOn, Searched}
use Rattle.ecd_graph.proofs.Reaching.{reaches_itself, open_unseen, done_unseen, open_done, one_place, root_below}

-- numbers with one more
pub slot_front : (xs : List ℕ) (y i : ℕ) → i < length xs → slot (xs ++ y ∷ []) i ≡ slot xs i
slot_front xs y i lt = get_or_append_left xs (y ∷ []) 0 i lt

pub slot_back : (xs : List ℕ) (y i : ℕ) → length xs ≡ i → slot (xs ++ y ∷ []) i ≡ y
slot_back xs y i e = get_or_push xs y 0 i e

module _ (edges : List Edge) (marks : List Mark) (cursors pending roots path : List ℕ) (count : ℕ) (s : Searched edges marks cursors pending roots path count)
    (w : ℕ) (among : w < length marks) (unseen : mark marks w ≡ Unseen) (reached : (i : ℕ) → i < length pending → Reaches edges (slot pending i) w) where
  abbrev new_marks : List Mark
  new_marks = set marks w (Open (length pending))

  abbrev new_pending : List ℕ
  new_pending = pending ++ w ∷ []

  abbrev new_roots : List ℕ
  new_roots = roots ++ length pending ∷ []

  abbrev new_path : List ℕ
  new_path = path ++ w ∷ []

  same : mark new_marks w ≡ Open (length pending)
  same = get_or-set_same marks w (Open (length pending)) Unseen among

  other : (v : ℕ) → (v ≡ w → ⊥) → mark new_marks v ≡ mark marks v
  other v ne = get_or-set_other marks w v (Open (length pending)) Unseen ne

  is_other : (v : ℕ) (m : Mark) → mark marks v ≡ m → (m ≡ Unseen → ⊥) → v ≡ w → ⊥
  is_other v m h met e = met (sym h ∙ (ap (mark marks) e ∙ unseen))

  pub keeps : (v : ℕ) (m : Mark) → mark marks v ≡ m → (m ≡ Unseen → ⊥) → mark new_marks v ≡ m
  keeps v m h met = other v (is_other v m h met) ∙ h

  was_open : (v i : ℕ) → mark new_marks v ≡ Open i → ((v ≡ w) × (i ≡ length pending)) ⊎ (mark marks v ≡ Open i)
  was_open v i h = elim (cases_eq v w) [
    | inl e ↦ inl (e, one_place i (length pending) (sym h ∙ (ap (mark new_marks) e ∙ same)))
    | inr ne ↦ inr (sym (other v ne) ∙ h)
  ]

  was_done : (v c : ℕ) → mark new_marks v ≡ Done c → mark marks v ≡ Done c
  was_done v c h = elim (cases_eq v w) [
    | inl e ↦ absurd (open_done (length pending) c (sym same ∙ (ap (mark new_marks) (sym e) ∙ h)))
    | inr ne ↦ sym (other v ne) ∙ h
  ]

  pub was_unseen : (v : ℕ) → mark new_marks v ≡ Unseen → mark marks v ≡ Unseen
  was_unseen v h = elim (cases_eq v w) [
    | inl e ↦ absurd (open_unseen (length pending) (sym same ∙ (ap (mark new_marks) (sym e) ∙ h)))
    | inr ne ↦ sym (other v ne) ∙ h
  ]

  on_path : (p : ℕ) → p < length path → slot path p ≡ w → ⊥
  on_path p lt = let g = s.goes p lt in is_other (slot path p) (Open g.0) g.1 (open_unseen g.0)

  path_was : (p i : ℕ) → p < length path → mark new_marks (slot new_path p) ≡ Open i → mark marks (slot path p) ≡ Open i
  path_was p i lt h =
      let here : mark new_marks (slot path p) ≡ Open i = ap (mark new_marks) (sym (slot_front path w p lt)) ∙ h in
      sym (other (slot path p) (on_path p lt)) ∙ here

  front_marked : (i : ℕ) → i < length pending → mark new_marks (slot new_pending i) ≡ Open i
  front_marked i lt = ap (mark new_marks) (slot_front pending w i lt) ∙ keeps (slot pending i) (Open i) (s.placed i lt) (open_unseen i)

  placed : (i : ℕ) → i < length new_pending → mark new_marks (slot new_pending i) ≡ Open i
  placed i lt = elim (cases_lt i (length pending)) [
    | inl below ↦ front_marked i below
    | inr above ↦
        let last : length pending ≡ i = omega (arith, lt, above, length_push pending w) in
        ap (mark new_marks) (slot_back pending w i last) ∙ (same ∙ ap Open last)
  ]

  stands : (v i : ℕ) → mark new_marks v ≡ Open i → (i < length new_pending) × (slot new_pending i ≡ v)
  stands v i h = elim (was_open v i h) [
    | inl both ↦ (omega (arith, both.1, length_push pending w), slot_back pending w i (sym both.1) ∙ sym both.0)
    | inr old ↦
        let there = s.stands v i old in
        (omega (arith, there.0, length_push pending w), slot_front pending w i there.0 ∙ there.1)
  ]

  down : (i j : ℕ) → i ≤ j → j < length new_pending → Reaches edges (slot new_pending i) (slot new_pending j)
  down i j le lt = elim (cases_lt j (length pending)) [
    | inl below ↦
        subst (λ (a : ℕ). Reaches edges a (slot new_pending j)) (sym (slot_front pending w i (omega (arith, le, below))))
        (subst (λ (b : ℕ). Reaches edges (slot pending i) b) (sym (slot_front pending w j below)) (s.down i j le below))
    | inr above ↦
        let last : length pending ≡ j = omega (arith, lt, above, length_push pending w) in
        subst (λ (b : ℕ). Reaches edges (slot new_pending i) b) (sym (slot_back pending w j last))
        (elim (cases_lt i (length pending)) [
          | inl before ↦ subst (λ (a : ℕ). Reaches edges a w) (sym (slot_front pending w i before)) (reached i before)
          | inr behind ↦
              let it : length pending ≡ i = omega (arith, behind, le, last) in
              subst (λ (a : ℕ). Reaches edges a w) (sym (slot_back pending w i it)) (reaches_itself edges w)
        ])
  ]

  up : (i j : ℕ) → i ≤ j → j < length new_pending → NoneBegins new_roots i j → Reaches edges (slot new_pending j) (slot new_pending i)
  up i j le lt none = elim (cases_lt j (length pending)) [
    | inl below ↦
        let old : NoneBegins roots i j = λ k is_root after. subst (λ (r : ℕ). j < r) (slot_front roots (length pending) k is_root)
        (none k (omega (arith, is_root, length_push roots (length pending))) (subst (λ (r : ℕ). i < r) (sym (slot_front roots (length pending) k is_root)) after)) in
        subst (λ (a : ℕ). Reaches edges (slot new_pending j) a) (sym (slot_front pending w i (omega (arith, le, below))))
        (subst (λ (b : ℕ). Reaches edges b (slot pending i)) (sym (slot_front pending w j below)) (s.up i j le below old))
    | inr above ↦
        let last : length pending ≡ j = omega (arith, lt, above, length_push pending w) in
        elim (cases_lt i (length pending)) [
          | inl before ↦
              let root : slot new_roots (length roots) ≡ length pending = slot_back roots (length pending) (length roots) refl in
              let beyond : j < length pending = subst (λ (r : ℕ). j < r) root (none (length roots) (omega (arith, length_push roots (length pending))) (subst (λ (r : ℕ). i < r) (sym root) before)) in
              absurd (omega (arith, beyond, last))
          | inr behind ↦
              let it : i ≡ j = omega (arith, behind, le, last) in
              subst (λ (a : ℕ). Reaches edges (slot new_pending j) (slot new_pending a)) (sym it) (reaches_itself edges (slot new_pending j))
        ]
  ]

  ascends : (a b : ℕ) → a < b → b < length new_roots → slot new_roots a < slot new_roots b
  ascends a b less lt = elim (cases_lt b (length roots)) [
    | inl below ↦
        let old : slot roots a < slot roots b = s.ascends a b less below in
        let first : slot new_roots a ≡ slot roots a = slot_front roots (length pending) a (omega (arith, less, below)) in
        let second : slot new_roots b ≡ slot roots b = slot_front roots (length pending) b below in
        omega (arith, old, first, second)
    | inr above ↦
        let last : length roots ≡ b = omega (arith, lt, above, length_push roots (length pending)) in
        let within : a < length roots = omega (arith, less, last) in
        let old : slot roots a < length pending = root_below edges marks cursors pending roots path count s a within in
        let first : slot new_roots a ≡ slot roots a = slot_front roots (length pending) a within in
        let second : slot new_roots b ≡ length pending = slot_back roots (length pending) b last in
        omega (arith, old, first, second)
  ]

  begins : 0 < length new_pending → (0 < length new_roots) × (slot new_roots 0 ≡ 0)
  begins some = elim (cases_lt 0 (length roots)) [
    | inl is_root ↦
        let below : slot roots 0 < length pending = root_below edges marks cursors pending roots path count s 0 is_root in
        let old = s.begins (omega (arith, below)) in
        (omega (arith, length_push roots (length pending)), slot_front roots (length pending) 0 is_root ∙ old.1)
    | inr none ↦
        let empty : length roots ≡ 0 = omega (arith, none) in
        elim (cases_lt 0 (length pending)) [
          | inl more ↦ let old = s.begins more in absurd (omega (arith, old.0, empty))
          | inr nothing ↦
              let zero_long : length pending ≡ 0 = omega (arith, nothing) in
              (omega (arith, length_push roots (length pending)), slot_back roots (length pending) 0 empty ∙ zero_long)
        ]
  ]

  rooted : (k : ℕ) → k < length new_roots → (p : ℕ) × (p < length new_path) × (mark new_marks (slot new_path p) ≡ Open (slot new_roots k))
  rooted k lt = elim (cases_lt k (length roots)) [
    | inl below ↦
        let old = s.rooted k below in (
          old.0,
          omega (arith, old.1, length_push path w),
          ap (mark new_marks) (slot_front path w old.0 old.1) ∙ (keeps (slot path old.0) (Open (slot roots k)) old.2 (open_unseen (slot roots k)) ∙ ap Open (sym (slot_front roots (length pending) k below))),
        )
    | inr above ↦
        let last : length roots ≡ k = omega (arith, lt, above, length_push roots (length pending)) in (
          length path,
          omega (arith, length_push path w),
          ap (mark new_marks) (slot_back path w (length path) refl) ∙ (same ∙ ap Open (sym (slot_back roots (length pending) k last))),
        )
  ]

  goes : (p : ℕ) → p < length new_path → (i : ℕ) × (mark new_marks (slot new_path p) ≡ Open i)
  goes p lt = elim (cases_lt p (length path)) [
    | inl below ↦
        let old = s.goes p below in
        (old.0, ap (mark new_marks) (slot_front path w p below) ∙ keeps (slot path p) (Open old.0) old.1 (open_unseen old.0))
    | inr above ↦
        let last : length path ≡ p = omega (arith, lt, above, length_push path w) in
        (length pending, ap (mark new_marks) (slot_back path w p last) ∙ same)
  ]

  climbs : (a b i j : ℕ) → a < b → b < length new_path → mark new_marks (slot new_path a) ≡ Open i → mark new_marks (slot new_path b) ≡ Open j → i < j
  climbs a b i j less lt first second = elim (cases_lt b (length path)) [
    | inl below ↦ s.climbs a b i j less below (path_was a i (omega (arith, less, below)) first) (path_was b j below second)
    | inr above ↦
        let last : length path ≡ b = omega (arith, lt, above, length_push path w) in
        let old = s.stands (slot path a) i (path_was a i (omega (arith, less, last)) first) in
        let top : length pending ≡ j = one_place (length pending) j (sym same ∙ (ap (mark new_marks) (sym (slot_back path w b last)) ∙ second)) in
        omega (arith, old.0, top)
  ]

  spent : (v i : ℕ) → mark new_marks v ≡ Open i → IsOn new_path v ⊎ (slot cursors v ≡ 0)
  spent v i h = elim (was_open v i h) [
    | inl both ↦ inl (length path, omega (arith, length_push path w), slot_back path w (length path) refl ∙ sym both.0)
    | inr old ↦ elim (s.spent v i old) [
      | inl on ↦ inl (on.0, omega (arith, on.1, length_push path w), slot_front path w on.0 on.1 ∙ on.2)
      | inr done ↦ inr done
    ]
  ]

  behind : (i x : ℕ) → i < length pending → IsBehind marks roots i x → IsBehind new_marks new_roots i x
  behind i x lt h = elim h [
    | inl done ↦ inl (done.0, keeps x (Done done.0) done.1 (done_unseen done.0))
    | inr there ↦ inr (
      there.0,
      keeps x (Open there.0) there.1 (open_unseen there.0),
      λ k is_root before. elim (cases_lt k (length roots)) [
        | inl below ↦
            let root : slot new_roots k ≡ slot roots k = slot_front roots (length pending) k below in
            let old : slot roots k ≤ there.0 = there.2 k below (omega (arith, before, root)) in
            omega (arith, old, root)
        | inr above ↦
            let last : length roots ≡ k = omega (arith, is_root, above, length_push roots (length pending)) in
            let root : slot new_roots k ≡ length pending = slot_back roots (length pending) k last in
            absurd (omega (arith, before, root, lt))
      ],
    )
  ]

  followed : (v i e : ℕ) (x : Edge) → mark new_marks v ≡ Open i → slice_get edges e ≡ Some x → x.from ≡ v → slot cursors v ≤ e → IsBehind new_marks new_roots i x.to
  followed v i e x h there from past = elim (was_open v i h) [
    | inl both ↦
        let this : IsFrom edges e w = record { edge = x; stands = there; from = from ∙ both.0 } in
        let fresh : e < slot cursors w = s.fresh w e among unseen this in
        let at_w : slot cursors v ≡ slot cursors w = ap (slot cursors) both.0 in
        absurd (omega (arith, fresh, past, at_w))
    | inr old ↦ behind i x.to (s.stands v i old).0 (s.followed v i e x old there from past)
  ]

  pub entered : Searched edges new_marks cursors new_pending new_roots new_path count
  entered = record {
    pointed = s.pointed ∙ sym (length-set marks w (Open (length pending)));
    placed = placed;
    stands = stands;
    down = down;
    up = up;
    ascends = ascends;
    begins = begins;
    rooted = rooted;
    goes = goes;
    climbs = climbs;
    spent = spent;
    fresh = λ v e lt h. s.fresh v e (subst (λ (k : ℕ). v < k) (length-set marks w (Open (length pending))) lt) (was_unseen v h);
    leads = s.leads;
    followed = followed;
    numbered = λ v c h. s.numbered v c (was_done v c h);
    closed = λ e c x there h.
        let old = s.closed e c x there (was_done x.from c h) in
        (old.0, keeps x.to (Done old.0) old.1 (done_unseen old.0), old.2);
    together = λ v u c h g. s.together v u c (was_done v c h) (was_done u c g);
  }

  -- a node of the path is still open and on the path, and the new one is not before its component
  pub still_on : (p v : ℕ) → p < length path → slot path p ≡ v → IsOn new_path v
  still_on p v lt is = (p, omega (arith, lt, length_push path w), slot_front path w p lt ∙ is)

  pub comes_behind : (i : ℕ) → IsBehind new_marks new_roots i w
  comes_behind i = inr (
    length pending,
    same,
    λ k is_root before. elim (cases_lt k (length roots)) [
      | inl below ↦
          let root : slot new_roots k ≡ slot roots k = slot_front roots (length pending) k below in
          let under : slot roots k < length pending = root_below edges marks cursors pending roots path count s k below in
          omega (arith, under, root)
      | inr above ↦
          let last : length roots ≡ k = omega (arith, is_root, above, length_push roots (length pending)) in
          let root : slot new_roots k ≡ length pending = slot_back roots (length pending) k last in
          omega (arith, root)
    ],
  )

pub entered_by : (edges : List Edge) (marks : List Mark) (cursors pending roots path : List ℕ) (count : ℕ) (s : Searched edges marks cursors pending roots path count)
    (w : ℕ) → w < length marks → mark marks w ≡ Unseen → ((i : ℕ) → i < length pending → Reaches edges (slot pending i) w) →
    (place : ℕ) (ps rs qs : List ℕ) → place ≡ length pending → ps ≡ pending ++ w ∷ [] → rs ≡ roots ++ place ∷ [] → qs ≡ path ++ w ∷ [] →
    Searched edges (set marks w (Open place)) cursors ps rs qs count
entered_by edges marks cursors pending roots path count s w among unseen reached place ps rs qs at_end grown begun longer =
    rw (grown, begun, longer, at_end) (entered edges marks cursors pending roots path count s w among unseen reached)
