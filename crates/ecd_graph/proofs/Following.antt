-- An edge is followed: components are joined, and the next edge is the one before it.
use Rattle.std.proofs.Common.{◌≡◌, ℕ, suc, ◌<◌, ◌≤◌, List, length, set, take, arith, sym, ◌∙◌, ap, subst, inl, inr, ◌⊎◌}
use Rattle.std.specs.Prelude.{slice_get, Some}
use Rattle.std.proofs.lemmas.Bool.{cases_lt, cases_eq}
use Rattle.std.proofs.lemmas.List.{get_or-set_same, get_or-set_other, get_or-take, length-take-le, length-set}
use Rattle.ecd_graph.specs.declared.edge.Edge.{Edge}
use Rattle.ecd_graph.specs.declared.search.Mark.{Mark}
use Rattle.ecd_graph.specs.declared.search.Mark.TheVariants.{Unseen, Open}
use Rattle.ecd_graph.specs.Graphs.{Reaches}
use Rattle.ecd_graph.specs.Chains.{IsFrom, IsLast}
use Rattle.ecd_graph.specs.Searches.{mark, slot, NoneBegins, IsBehind, IsOn, Searched}
use Rattle.ecd_graph.proofs.Reaching.{reaches_on, reaches_over, open_unseen, one_place}

-- ---- the last component is joined to the one before it

module _ (edges : List Edge) (marks : List Mark) (cursors pending roots path : List ℕ) (count : ℕ) (s : Searched edges marks cursors pending roots path count)
    (last k i j e : ℕ) (x : Edge) (size : suc last ≡ length path) (at_top : mark marks (slot path last) ≡ Open i)
    (stands : slice_get edges e ≡ Some x) (from : x.from ≡ slot path last) (to : mark marks x.to ≡ Open j)
    (final : suc k ≡ length roots) (later : j < slot roots k) where
  abbrev fewer : List ℕ
  fewer = take k roots

  fewer_long : length fewer ≡ k
  fewer_long = length-take-le k roots (omega (arith, final))

  at_front : (a : ℕ) → a < k → slot fewer a ≡ slot roots a
  at_front a lt = get_or-take k roots a 0 lt

  -- every open node reaches the target
  reaches_target : (a : ℕ) → a < length pending → Reaches edges (slot pending a) (slot pending j)
  reaches_target a lt =
      subst (λ (v : ℕ). Reaches edges (slot pending a) v) (sym (s.stands x.to j to).1) (reaches_over edges marks cursors pending roots path count s last i e x size at_top stands from a lt)

  -- nothing of the fewer begins there, so nothing does, if the last does not
  none_begins : (a b : ℕ) → NoneBegins fewer a b → (a < slot roots k → b < slot roots k) → NoneBegins roots a b
  none_begins a b none at_last c is_root after = elim (cases_lt c k) [
    | inl front ↦
        let same : slot fewer c ≡ slot roots c = at_front c front in
        let beyond : b < slot fewer c = none c (omega (arith, front, fewer_long)) (omega (arith, same, after)) in
        omega (arith, beyond, same)
    | inr back ↦
        let it : c ≡ k = omega (arith, back, is_root, final) in
        let root : slot roots c ≡ slot roots k = ap (slot roots) it in
        let beyond : b < slot roots k = at_last (omega (arith, root, after)) in
        omega (arith, beyond, root)
  ]

  up : (a b : ℕ) → a ≤ b → b < length pending → NoneBegins fewer a b → Reaches edges (slot pending b) (slot pending a)
  up a b le lt none = elim (cases_lt a (slot roots k)) [
    | inr behind ↦ s.up a b le lt (none_begins a b none (λ before. absurd (omega (arith, before, behind))))
    | inl before ↦ elim (cases_lt b (slot roots k)) [
      | inl short ↦ s.up a b le lt (none_begins a b none (λ _. short))
      | inr long ↦ elim (cases_lt a j) [
        | inl under ↦
            let free : NoneBegins fewer a j = λ c is_root after.
            let front : c < k = omega (arith, is_root, fewer_long) in
            let same : slot fewer c ≡ slot roots c = at_front c front in
            let beyond : b < slot fewer c = none c is_root after in
            let up_to : slot roots c < slot roots k = s.ascends c k front (omega (arith, final)) in
            absurd (omega (arith, beyond, same, up_to, long)) in
            reaches_on edges (slot pending b) (slot pending j) (slot pending a) (reaches_target b lt) (s.up a j (omega (arith, under)) (s.stands x.to j to).0 (none_begins a j free (λ _. later)))
        | inr above ↦ reaches_on edges (slot pending b) (slot pending j) (slot pending a) (reaches_target b lt) (s.down j a above (omega (arith, le, lt)))
      ]
    ]
  ]

  -- something begins at 0, which is not later
  pub some_left : 0 < k
  some_left = elim (cases_lt 0 k) [
    | inl more ↦ more
    | inr none ↦
        let zero_th : k ≡ 0 = omega (arith, none) in
        let there = s.stands x.to j to in
        let first = s.begins (omega (arith, there.0)) in
        let root : slot roots k ≡ slot roots 0 = ap (slot roots) zero_th in
        let at_zero : slot roots 0 ≡ 0 = first.1 in
        absurd (omega (arith, later, root, at_zero))
  ]

  pub joined : Searched edges marks cursors pending fewer path count
  joined = record {
    pointed = s.pointed;
    placed = s.placed;
    stands = s.stands;
    down = s.down;
    up = up;
    ascends = λ a b less lt.
        let front : b < k = omega (arith, lt, fewer_long) in
        let old : slot roots a < slot roots b = s.ascends a b less (omega (arith, front, final)) in
        let first : slot fewer a ≡ slot roots a = at_front a (omega (arith, less, front)) in
        let second : slot fewer b ≡ slot roots b = at_front b front in
        omega (arith, old, first, second);
    begins = λ some. (omega (arith, fewer_long, some_left), at_front 0 some_left ∙ (s.begins some).1);
    rooted = λ c lt.
        let front : c < k = omega (arith, lt, fewer_long) in
        let old = s.rooted c (omega (arith, front, final)) in
        (old.0, old.1, old.2 ∙ ap Open (sym (at_front c front)));
    goes = s.goes;
    climbs = s.climbs;
    spent = s.spent;
    fresh = s.fresh;
    leads = s.leads;
    followed = λ v a d y is there leaves past. elim (s.followed v a d y is there leaves past) [
      | inl done ↦ inl done
      | inr old ↦ inr (
        old.0,
        old.1,
        λ c lt before.
            let front : c < k = omega (arith, lt, fewer_long) in
            let same : slot fewer c ≡ slot roots c = at_front c front in
            let under : slot roots c ≤ old.0 = old.2 c (omega (arith, front, final)) (omega (arith, before, same)) in
            omega (arith, under, same),
      )
    ];
    numbered = s.numbered;
    closed = s.closed;
    together = s.together;
  }

-- ---- the edge was followed

module _ (edges : List Edge) (marks : List Mark) (cursors pending roots path : List ℕ) (count : ℕ) (s : Searched edges marks cursors pending roots path count)
    (v i e link : ℕ) (x : Edge) (among : v < length cursors) (is_open : mark marks v ≡ Open i) (on : IsOn path v) (cursor : slot cursors v ≡ suc e)
    (stands : slice_get edges e ≡ Some x) (behind : IsBehind marks roots i x.to) (before : IsLast edges v e link) where
  abbrev new_cursors : List ℕ
  new_cursors = set cursors v link

  same : slot new_cursors v ≡ link
  same = get_or-set_same cursors v link 0 among

  other : (u : ℕ) → (u ≡ v → ⊥) → slot new_cursors u ≡ slot cursors u
  other u ne = get_or-set_other cursors v u link 0 ne

  spent : (u a : ℕ) → mark marks u ≡ Open a → IsOn path u ⊎ (slot new_cursors u ≡ 0)
  spent u a h = elim (cases_eq u v) [
    | inl it ↦ inl (on.0, on.1, on.2 ∙ sym it)
    | inr ne ↦ elim (s.spent u a h) [
      | inl old ↦ inl old
      | inr done ↦ inr (other u ne ∙ done)
    ]
  ]

  fresh : (u d : ℕ) → u < length marks → mark marks u ≡ Unseen → IsFrom edges d u → d < slot new_cursors u
  fresh u d lt h this = elim (cases_eq u v) [
    | inl it ↦ absurd (open_unseen i (sym is_open ∙ (ap (mark marks) (sym it) ∙ h)))
    | inr ne ↦
        let old : d < slot cursors u = s.fresh u d lt h this in
        let kept : slot new_cursors u ≡ slot cursors u = other u ne in
        omega (arith, old, kept)
  ]

  leads : (u d : ℕ) → slot new_cursors u ≡ suc d → IsFrom edges d u
  leads u d h = elim (cases_eq u v) [
    | inl it ↦
        let leads_on : link ≡ suc d = sym same ∙ (ap (slot new_cursors) (sym it) ∙ h) in
        subst (λ (n : ℕ). IsFrom edges d n) (sym it) (before.leads d leads_on)
    | inr ne ↦ s.leads u d (sym (other u ne) ∙ h)
  ]

  followed : (u a d : ℕ) (y : Edge) → mark marks u ≡ Open a → slice_get edges d ≡ Some y → y.from ≡ u → slot new_cursors u ≤ d → IsBehind marks roots a y.to
  followed u a d y h there from past = elim (cases_eq u v) [
    | inr ne ↦
        let kept : slot new_cursors u ≡ slot cursors u = other u ne in
        s.followed u a d y h there from (omega (arith, past, kept))
    | inl it ↦
        let at_v : slot new_cursors u ≡ link = ap (slot new_cursors) it ∙ same in
        let old_v : slot cursors u ≡ suc e = ap (slot cursors) it ∙ cursor in
        let place : i ≡ a = one_place i a (sym is_open ∙ (ap (mark marks) (sym it) ∙ h)) in
        elim (cases_lt e d) [
          | inl later ↦ s.followed u a d y h there from (omega (arith, old_v, later))
          | inr upto ↦ elim (cases_lt d e) [
            | inl earlier ↦
                let this : IsFrom edges d v = record { edge = y; stands = there; from = from ∙ it } in
                let below : d < link = before.all d this earlier in
                absurd (omega (arith, below, past, at_v))
            | inr not_earlier ↦
                let equal : d ≡ e = omega (arith, upto, not_earlier) in
                let both : Some y ≡ Some x = sym there ∙ (ap (slice_get edges) equal ∙ stands) in
                let edge : x ≡ y = cc in
                subst (λ (z : Edge). IsBehind marks roots a z.to) edge (subst (λ (b : ℕ). IsBehind marks roots b x.to) place behind)
          ]
        ]
  ]

  pub advanced : Searched edges marks new_cursors pending roots path count
  advanced = record {
    pointed = length-set cursors v link ∙ s.pointed;
    placed = s.placed;
    stands = s.stands;
    down = s.down;
    up = s.up;
    ascends = s.ascends;
    begins = s.begins;
    rooted = s.rooted;
    goes = s.goes;
    climbs = s.climbs;
    spent = spent;
    fresh = fresh;
    leads = leads;
    followed = followed;
    numbered = s.numbered;
    closed = s.closed;
    together = s.together;
  }
