-- The last node of the path is left.
use Rattle.std.proofs.Common.{◌≡◌, ℕ, suc, ◌+◌, ◌<◌, ◌≤◌, List, length, take, arith, refl, sym, ◌∙◌, ap, subst, inl, inr, ◌⊎◌}
use Rattle.std.specs.Prelude.{slice_get, Some}
use Rattle.std.proofs.lemmas.Bool.{cases_lt}
use Rattle.std.proofs.lemmas.List.{get_or-take, length-take-le}
use Rattle.ecd_graph.specs.declared.edge.Edge.{Edge}
use Rattle.ecd_graph.specs.declared.search.Mark.{Mark}
use Rattle.ecd_graph.specs.declared.search.Mark.TheVariants.{Unseen, Open, Done}
use Rattle.ecd_graph.specs.Graphs.{Reaches}
use Rattle.ecd_graph.specs.Searches.{mark, slot, NoneBegins, IsBehind, IsOn, Searched, Numbers}
use Rattle.ecd_graph.proofs.Reaching.{root_under, open_unseen, done_unseen, open_done, one_place, one_number}

module _ (edges : List Edge) (marks : List Mark) (cursors pending roots path : List ℕ) (count : ℕ) (s : Searched edges marks cursors pending roots path count)
    (last i : ℕ) (size : suc last ≡ length path) (at_top : mark marks (slot path last) ≡ Open i) (done : slot cursors (slot path last) ≡ 0) where
  abbrev shorter : List ℕ
  shorter = take last path

  shorter_long : length shorter ≡ last
  shorter_long = length-take-le last path (omega (arith, size))

  at_front : (p : ℕ) → p < last → slot shorter p ≡ slot path p
  at_front p lt = get_or-take last path p 0 lt

  goes : (p : ℕ) → p < length shorter → (a : ℕ) × (mark marks (slot shorter p) ≡ Open a)
  goes p lt =
      let front : p < last = omega (arith, lt, shorter_long) in
      let old = s.goes p (omega (arith, front, size)) in
      (old.0, ap (mark marks) (at_front p front) ∙ old.1)

  climbs : (a b c d : ℕ) → a < b → b < length shorter → mark marks (slot shorter a) ≡ Open c → mark marks (slot shorter b) ≡ Open d → c < d
  climbs a b c d less lt first second =
      let front : b < last = omega (arith, lt, shorter_long) in
      s.climbs a b c d less (omega (arith, front, size)) (ap (mark marks) (sym (at_front a (omega (arith, less, front)))) ∙ first) (ap (mark marks) (sym (at_front b front)) ∙ second)

  -- a node of the path is the last, or is still on it
  on_shorter : (v : ℕ) → IsOn path v → (v ≡ slot path last) ⊎ IsOn shorter v
  on_shorter v on = elim (cases_lt on.0 last) [
    | inl front ↦ inr (on.0, omega (arith, front, shorter_long), at_front on.0 front ∙ on.2)
    | inr back ↦
        let it : on.0 ≡ last = omega (arith, back, on.1, size) in
        inl (sym on.2 ∙ ap (slot path) it)
  ]

  -- the edges of an open node off the shorter path were all followed
  spent : (v a : ℕ) → mark marks v ≡ Open a → IsOn shorter v ⊎ (slot cursors v ≡ 0)
  spent v a h = elim (s.spent v a h) [
    | inl on ↦ elim (on_shorter v on) [
      | inl it ↦ inr (ap (slot cursors) it ∙ done)
      | inr still ↦ inl still
    ]
    | inr gone ↦ inr gone
  ]

  -- ---- no component begins with it

  pub none_at : ((k : ℕ) → suc k ≡ length roots → slot roots k ≡ i → ⊥) → (k : ℕ) → k < length roots → slot roots k ≡ i → ⊥
  none_at inner k lt is = elim (cases_lt (suc k) (length roots)) [
    | inl before ↦
        let less : slot roots k < slot roots (suc k) = s.ascends k (suc k) (omega arith) before in
        let under : slot roots (suc k) ≤ i = root_under edges marks cursors pending roots path count s last i size at_top (suc k) before in
        omega (arith, less, under, is)
    | inr final ↦ inner k (omega (arith, final, lt)) is
  ]

  pub left : ((k : ℕ) → k < length roots → slot roots k ≡ i → ⊥) → Searched edges marks cursors pending roots (take last path) count
  left inner = record {
    pointed = s.pointed;
    placed = s.placed;
    stands = s.stands;
    down = s.down;
    up = s.up;
    ascends = s.ascends;
    begins = s.begins;
    rooted = λ k lt.
        let old = s.rooted k lt in
        elim (cases_lt old.0 last) [
          | inl front ↦ (old.0, omega (arith, front, shorter_long), ap (mark marks) (at_front old.0 front) ∙ old.2)
          | inr back ↦
              let it : old.0 ≡ last = omega (arith, back, old.1, size) in
              absurd (inner k lt (one_place (slot roots k) i (sym old.2 ∙ (ap (λ (p : ℕ). mark marks (slot path p)) it ∙ at_top))))
        ];
    goes = goes;
    climbs = climbs;
    spent = spent;
    fresh = s.fresh;
    leads = s.leads;
    followed = s.followed;
    numbered = s.numbered;
    closed = s.closed;
    together = s.together;
  }

  -- ---- the last component begins with it

  module _ (k : ℕ) (final : suc k ≡ length roots) (root : slot roots k ≡ i) (new_marks : List Mark) (nodes : length new_marks ≡ length marks) (n : Numbers marks new_marks i count) where
    abbrev fewer : List ℕ
    fewer = take k roots

    abbrev kept : List ℕ
    kept = take i pending

    fewer_long : length fewer ≡ k
    fewer_long = length-take-le k roots (omega (arith, final))

    kept_long : length kept ≡ i
    kept_long =
        let there = s.stands (slot path last) i at_top in
        length-take-le i pending (omega (arith, there.0))

    root_at : (c : ℕ) → c < k → slot fewer c ≡ slot roots c
    root_at c lt = get_or-take k roots c 0 lt

    node_at : (a : ℕ) → a < i → slot kept a ≡ slot pending a
    node_at a lt = get_or-take i pending a 0 lt

    root_before : (c : ℕ) → c < k → slot roots c < i
    root_before c lt =
        let less : slot roots c < slot roots k = s.ascends c k lt (omega (arith, final)) in
        omega (arith, less, root)

    within : (a : ℕ) → a < i → a < length pending
    within a lt = let there = s.stands (slot path last) i at_top in omega (arith, lt, there.0)

    still_open : (v a : ℕ) → mark marks v ≡ Open a → a < i → mark new_marks v ≡ Open a
    still_open v a h lt = n.kept v (λ j g. let same : a ≡ j = one_place a j (sym h ∙ g) in omega (arith, lt, same)) ∙ h

    still_done : (v c : ℕ) → mark marks v ≡ Done c → mark new_marks v ≡ Done c
    still_done v c h = n.kept v (λ j g. absurd (open_done j c (sym g ∙ h))) ∙ h

    was_open : (v a : ℕ) → mark new_marks v ≡ Open a → (mark marks v ≡ Open a) × (a < i)
    was_open v a h = by (mark marks v) refl
      where
        by : (m : Mark) → mark marks v ≡ m → (mark marks v ≡ Open a) × (a < i)
        by Unseen is = absurd (open_unseen a (sym h ∙ (n.kept v (λ j g. absurd (open_unseen j (sym g ∙ is))) ∙ is)))
        by (Done c) is = absurd (open_done a c (sym h ∙ still_done v c is))
        by (Open b) is = elim (cases_lt b i) [
          | inl lt ↦
              let same : a ≡ b = one_place a b (sym h ∙ still_open v b is lt) in
              (is ∙ ap Open (sym same), omega (arith, lt, same))
          | inr ge ↦ absurd (open_done a count (sym h ∙ n.done v b is ge))
        ]

    pub was_unseen : (v : ℕ) → mark new_marks v ≡ Unseen → mark marks v ≡ Unseen
    was_unseen v h = by (mark marks v) refl
      where
        by : (m : Mark) → mark marks v ≡ m → mark marks v ≡ Unseen
        by Unseen is = is
        by (Done c) is = absurd (done_unseen c (sym (still_done v c is) ∙ h))
        by (Open b) is = elim (cases_lt b i) [
          | inl lt ↦ absurd (open_unseen b (sym (still_open v b is lt) ∙ h))
          | inr ge ↦ absurd (done_unseen count (sym (n.done v b is ge) ∙ h))
        ]

    -- a node that is done was done, or was open from the place on
    was_done : (v c : ℕ) → mark new_marks v ≡ Done c → (mark marks v ≡ Done c) ⊎ ((c ≡ count) × (j : ℕ) × (mark marks v ≡ Open j) × (i ≤ j))
    was_done v c h = by (mark marks v) refl
      where
        by : (m : Mark) → mark marks v ≡ m → (mark marks v ≡ Done c) ⊎ ((c ≡ count) × (j : ℕ) × (mark marks v ≡ Open j) × (i ≤ j))
        by Unseen is = absurd (done_unseen c (sym h ∙ (n.kept v (λ j g. absurd (open_unseen j (sym g ∙ is))) ∙ is)))
        by (Done b) is = inl (is ∙ ap Done (one_number b c (sym (still_done v b is) ∙ h)))
        by (Open b) is = elim (cases_lt b i) [
          | inl lt ↦ absurd (open_done b c (sym (still_open v b is lt) ∙ h))
          | inr ge ↦ inr (one_number c count (sym h ∙ n.done v b is ge), b, is, ge)
        ]

    -- a node of the path with an earlier place is on the shorter path
    on_front : (p a : ℕ) → p < length path → mark marks (slot path p) ≡ Open a → a < i → p < last
    on_front p a lt h before = elim (cases_lt p last) [
      | inl front ↦ front
      | inr back ↦
          let it : p ≡ last = omega (arith, back, lt, size) in
          let same : a ≡ i = one_place a i (sym h ∙ (ap (λ (q : ℕ). mark marks (slot path q)) it ∙ at_top)) in
          absurd (omega (arith, same, before))
    ]

    before_top : (p a : ℕ) → p < last → mark marks (slot path p) ≡ Open a → a < i
    before_top p a lt h = s.climbs p last a i lt (omega (arith, size)) h at_top

    rooted : (c : ℕ) → c < length fewer → (p : ℕ) × (p < length shorter) × (mark new_marks (slot shorter p) ≡ Open (slot fewer c))
    rooted c lt =
        let front : c < k = omega (arith, lt, fewer_long) in
        let old = s.rooted c (omega (arith, front, final)) in
        let before : slot roots c < i = root_before c front in
        let on : old.0 < last = on_front old.0 (slot roots c) old.1 old.2 before in
        (old.0, omega (arith, on, shorter_long), ap (mark new_marks) (at_front old.0 on) ∙ (still_open (slot path old.0) (slot roots c) old.2 before ∙ ap Open (sym (root_at c front))))

    new_goes : (p : ℕ) → p < length shorter → (a : ℕ) × (mark new_marks (slot shorter p) ≡ Open a)
    new_goes p lt =
        let front : p < last = omega (arith, lt, shorter_long) in
        let old = s.goes p (omega (arith, front, size)) in
        (old.0, ap (mark new_marks) (at_front p front) ∙ still_open (slot path p) old.0 old.1 (before_top p old.0 front old.1))

    behind : (a x : ℕ) → a < i → IsBehind marks roots a x → IsBehind new_marks fewer a x
    behind a x lt h = elim h [
      | inl gone ↦ inl (gone.0, still_done x gone.0 gone.1)
      | inr there ↦ elim (cases_lt there.0 i) [
        | inl before ↦ inr (
          there.0,
          still_open x there.0 there.1 before,
          λ c is_root earlier.
              let front : c < k = omega (arith, is_root, fewer_long) in
              let same : slot fewer c ≡ slot roots c = root_at c front in
              let under : slot roots c ≤ there.0 = there.2 c (omega (arith, front, final)) (omega (arith, earlier, same)) in
              omega (arith, under, same),
        )
        | inr after ↦ inl (count, n.done x there.0 there.1 after)
      ]
    ]

    -- an edge of a node of the complete component leads to a node that is done
    closes : (v j : ℕ) → mark marks v ≡ Open j → i ≤ j → (e : ℕ) (x : Edge) → slice_get edges e ≡ Some x → x.from ≡ v → (d : ℕ) × (mark new_marks x.to ≡ Done d) × (d ≤ count)
    closes v j h ge e x there from =
        let gone : slot cursors v ≡ 0 = elim (spent v j h) [
          | inl on ↦
              let front : on.0 < last = omega (arith, on.1, shorter_long) in
              let is : mark marks (slot path on.0) ≡ Open j = ap (mark marks) (sym (at_front on.0 front) ∙ on.2) ∙ h in
              let less : j < i = before_top on.0 j front is in
              absurd (omega (arith, less, ge))
          | inr all ↦ all
        ] in
        elim (s.followed v j e x h there from (omega (arith, gone))) [
          | inl old ↦
              let less : old.0 < count = s.numbered x.to old.0 old.1 in
              (old.0, still_done x.to old.0 old.1, omega (arith, less))
          | inr back ↦
              let under : slot roots k ≤ back.0 = back.2 k (omega (arith, final)) (omega (arith, root, ge)) in
              (count, n.done x.to back.0 back.1 (omega (arith, under, root)), omega arith)
        ]

    new_closed : (e c : ℕ) (x : Edge) → slice_get edges e ≡ Some x → mark new_marks x.from ≡ Done c → (d : ℕ) × (mark new_marks x.to ≡ Done d) × (d ≤ c)
    new_closed e c x there h = elim (was_done x.from c h) [
      | inl old ↦
          let before = s.closed e c x there old in
          (before.0, still_done x.to before.0 before.1, before.2)
      | inr now ↦
          let new = closes x.from now.1 now.2 now.3 e x there refl in
          (new.0, new.1, omega (arith, new.2, now.0))
    ]

    -- open nodes from the place on reach each other
    reach_each : (v w a b : ℕ) → mark marks v ≡ Open a → mark marks w ≡ Open b → i ≤ a → i ≤ b → Reaches edges v w
    reach_each v w a b h g first second =
        let at_v = s.stands v a h in
        let at_w = s.stands w b g in
        let reach : Reaches edges (slot pending a) (slot pending b) = elim (cases_lt b a) [
          | inr le ↦ s.down a b le at_w.0
          | inl lt ↦
              let none : NoneBegins roots b a = λ c is_root after.
              let under : slot roots c ≤ i = root_under edges marks cursors pending roots path count s last i size at_top c is_root in
              absurd (omega (arith, under, after, second)) in
              s.up b a (omega (arith, lt)) at_v.0 none
        ] in
        subst (λ (x : ℕ). Reaches edges x w) at_v.1 (subst (λ (x : ℕ). Reaches edges (slot pending a) x) at_w.1 reach)

    new_together : (v w c : ℕ) → mark new_marks v ≡ Done c → mark new_marks w ≡ Done c → Reaches edges v w
    new_together v w c h g = elim (was_done v c h) [
      | inl old ↦ elim (was_done w c g) [
        | inl both ↦ s.together v w c old both
        | inr now ↦
            let less : c < count = s.numbered v c old in
            absurd (omega (arith, less, now.0))
      ]
      | inr now ↦ elim (was_done w c g) [
        | inl old ↦
            let less : c < count = s.numbered w c old in
            absurd (omega (arith, less, now.0))
        | inr both ↦ reach_each v w now.1 both.1 now.2 both.2 now.3 both.3
      ]
    ]

    pub completed : Searched edges new_marks cursors (take i pending) (take k roots) (take last path) (count + 1)
    completed = record {
      pointed = s.pointed ∙ sym nodes;
      placed = λ a lt.
          let front : a < i = omega (arith, lt, kept_long) in
          ap (mark new_marks) (node_at a front) ∙ still_open (slot pending a) a (s.placed a (within a front)) front;
      stands = λ v a h.
          let old = was_open v a h in
          (omega (arith, old.1, kept_long), node_at a old.1 ∙ (s.stands v a old.0).1);
      down = λ a b le lt.
          let front : b < i = omega (arith, lt, kept_long) in
          subst (λ (x : ℕ). Reaches edges x (slot kept b)) (sym (node_at a (omega (arith, le, front))))
          (subst (λ (x : ℕ). Reaches edges (slot pending a) x) (sym (node_at b front)) (s.down a b le (within b front)));
      up = λ a b le lt none.
          let front : b < i = omega (arith, lt, kept_long) in
          let old : NoneBegins roots a b = λ c is_root after. elim (cases_lt c k) [
            | inl ahead ↦
                let same : slot fewer c ≡ slot roots c = root_at c ahead in
                let beyond : b < slot fewer c = none c (omega (arith, ahead, fewer_long)) (omega (arith, same, after)) in
                omega (arith, beyond, same)
            | inr back ↦
                let it : c ≡ k = omega (arith, back, is_root, final) in
                let same : slot roots c ≡ slot roots k = ap (slot roots) it in
                omega (arith, same, root, front)
          ] in
          subst (λ (x : ℕ). Reaches edges (slot kept b) x) (sym (node_at a (omega (arith, le, front))))
          (subst (λ (x : ℕ). Reaches edges x (slot pending a)) (sym (node_at b front)) (s.up a b le (within b front) old));
      ascends = λ a b less lt.
          let front : b < k = omega (arith, lt, fewer_long) in
          let old : slot roots a < slot roots b = s.ascends a b less (omega (arith, front, final)) in
          let first : slot fewer a ≡ slot roots a = root_at a (omega (arith, less, front)) in
          let second : slot fewer b ≡ slot roots b = root_at b front in
          omega (arith, old, first, second);
      begins = λ some.
          let more : 0 < i = omega (arith, some, kept_long) in
          let old = s.begins (within 0 more) in
          let front : 0 < k = elim (cases_lt 0 k) [
            | inl good ↦ good
            | inr bad ↦
                let none : k ≡ 0 = omega (arith, bad) in
                let same : slot roots k ≡ slot roots 0 = ap (slot roots) none in
                let first : slot roots 0 ≡ 0 = old.1 in
                absurd (omega (arith, same, first, root, more))
          ] in
          (omega (arith, front, fewer_long), root_at 0 front ∙ old.1);
      rooted = rooted;
      goes = new_goes;
      climbs = λ a b c d less lt first second.
          climbs a b c d less lt (was_open (slot shorter a) c first).0 (was_open (slot shorter b) d second).0;
      spent = λ v a h. spent v a (was_open v a h).0;
      fresh = λ v e lt h this. s.fresh v e (omega (arith, lt, nodes)) (was_unseen v h) this;
      leads = s.leads;
      followed = λ v a e x h there from past.
          let old = was_open v a h in
          behind a x.to old.1 (s.followed v a e x old.0 there from past);
      numbered = λ v c h. elim (was_done v c h) [
        | inl old ↦ let less : c < count = s.numbered v c old in omega (arith, less)
        | inr now ↦ omega (arith, now.0)
      ];
      closed = new_closed;
      together = new_together;
    }
