-- Two splits of one list are the same split: part by part.
use Rattle.std.proofs.Common.{◌≡◌, ℕ, zero, suc, ◌≤◌, ◌⊎◌, inl, inr, Bool, true, false, cond, ltb, List, [], ◌∷◌, ◌++◌, length, map, refl, ap, sym, ◌∙◌, subst, append_assoc, arith}
use Rattle.std.proofs.lemmas.Bool.{ltb-false}
use Rattle.std.proofs.lemmas.List.{append_cancel_left}
use Rattle.ecd_keyorder.specs.declared.Order.{Order}
use Rattle.ecd_item_laws.specs.declared.item.Item.{Item}
use Rattle.ecd_core.specs.declared.shape.Kind.{Kind}
use Rattle.ecd_core.specs.declared.shape.Group.{Row_of-Part}
use Rattle.ecd_core.specs.declared.shape.Part.{One', Opt', Many', Row_of-Way, end_of-Way, more_of-Way}
use Rattle.ecd_core.specs.declared.value.Value.{Value}
use Rattle.ecd_core.specs.declared.value.Value.TheVariants as v
use Rattle.ecd_core.specs.Lists.{Each}
use Rattle.ecd_core.specs.Values.{Run, run_items, run_value, Gives, PartsGive, PartGives, WayGives}
use Rattle.ecd_apart.specs.Keys.{PartsDiffer, GroupsDiffer, KeysDiffer}
use Rattle.ecd_shape_rules.specs.Starts.{may_be_empty, starts, follow_body, AreApart}
use Rattle.ecd_shape_rules.specs.Demands.{two_ways, way_beside_each}
use Rattle.ecd_shape_rules.proofs.Kept.{Kept, kept_both}
use Rattle.ecd_one_value.specs.Splits.{IsUnder, Follows, OneSplit, AllDiffer}
use Rattle.ecd_one_value.proofs.Starts.{differ_both, starts_differ, follows_append, front_empty, empty_parts, runs_begin, begin, are_apart, no_start}

not_true : {b : Bool} → b ≡ false → b ≡ true → ⊥
not_true e f = let h : false ≡ true = sym e ∙ f in cc

pub follow_body_differs : (hi : ℕ) {n : _} (body : Row_of-Part n) (after : List Kind) → PartsDiffer body → AllDiffer after → AllDiffer (follow_body hi body after)
follow_body_differs hi body after d h = by_test (ltb 1 hi)
  where
    by_test : (t : Bool) → AllDiffer (cond t (starts body ++ after) after)
    by_test true = differ_both (starts body) after (starts_differ body d) h
    by_test false = h

module _ (order : Order) where
  pub one_split : (at : ℕ) (kind : Kind) (after : List Kind) → ((x : Item) (u w : Value) → Gives order kind x u → Gives order kind x w → u ≡ w) → OneSplit order (PartGives order (One' at kind)) after
  unfolding Gives
  one_split at kind after h xs ys r s u w p q fr fs e =
      let f : p.0 ∷ r ≡ q.0 ∷ s = ap (λ (x : List Item). x ++ r) (sym p.1) ∙ (e ∙ ap (λ (x : List Item). x ++ s) q.1) in
      let x : p.0 ≡ q.0 = cc in
      (p.1 ∙ (ap (λ (y : Item). y ∷ []) x ∙ sym q.1), h q.0 u w (subst (λ (y : Item). Gives order kind y u) x p.2) q.2)

  pub opt_split : (at : ℕ) (sh : List (Unit {0})) (body : Row_of-Part _) (after : List Kind) → PartsDiffer body → AllDiffer after → may_be_empty body ≡ false → AreApart (starts body) after → OneSplit order (PartsGive order body) after
      → OneSplit order (PartGives order (Opt' at sh body)) after
  unfolding Gives
  opt_split at sh body after d g n a h xs ys r s u w (inl p) (inl q) fr fs e = (p.0 ∙ sym q.0, p.1 ∙ sym q.1)
  opt_split at sh body after d g n a h xs ys r s u w (inl p) (inr q) fr fs e =
      let f : r ≡ ys ++ s = ap (λ (x : List Item). x ++ r) (sym p.0) ∙ e in
      absurd (no_start order (starts body) after ys s (starts_differ body d) g a (begin order body ys q.0 q.2) (λ z. not_true n (empty_parts order body ys q.0 q.2 z)) (subst (Follows order after) f fr))
  opt_split at sh body after d g n a h xs ys r s u w (inr p) (inl q) fr fs e =
      let f : s ≡ xs ++ r = ap (λ (x : List Item). x ++ s) (sym q.0) ∙ sym e in
      absurd (no_start order (starts body) after xs r (starts_differ body d) g a (begin order body xs p.0 p.2) (λ z. not_true n (empty_parts order body xs p.0 p.2 z)) (subst (Follows order after) f fs))
  opt_split at sh body after d g n a h xs ys r s u w (inr p) (inr q) fr fs e =
      let both = h xs ys r s p.0 q.0 p.2 q.2 fr fs e in
      (both.0, p.1 ∙ (ap (λ (l : List Value). v.Present (v.Group l)) both.1 ∙ sym q.1))

  -- ---- repetitions

  module _ {m : _} (body : Row_of-Part m) (after : List Kind) where
    abbrev AllRuns : List Run → Type 0
    AllRuns runs = Each (λ run. PartsGive order body run.0 run.1) runs

    body_runs_begin : (runs : List Run) → AllRuns runs → Follows order (starts body) (run_items runs)
    body_runs_begin runs q = runs_begin order (PartsGive order body) (starts body) (λ ys us p. begin order body ys us p) runs q

    -- behind a body there are the other bodies, where more than one is allowed, and what follows
    next_follows : (hi : ℕ) (runs : List Run) (r : List Item) → suc (length runs) ≤ hi → AllRuns runs → Follows order after r → Follows order (follow_body hi body after) (run_items runs ++ r)
    next_follows hi runs r l q fr = by_test (ltb 1 hi) refl
      where
        none_left : (others : List Run) → length others ≤ 0 → Follows order after r → Follows order after (run_items others ++ r)
        none_left [] h f = f
        none_left (run ∷ others) h f = absurd (omega arith)

        by_test : (t : Bool) → ltb 1 hi ≡ t → Follows order (cond t (starts body ++ after) after) (run_items runs ++ r)
        by_test true e = follows_append order (starts body) after (run_items runs) r (body_runs_begin runs q) (λ g. fr)
        by_test false e = let h = ltb-false 1 hi e in none_left runs (omega arith) fr

    not_none : (run : Run) (runs : List Run) → may_be_empty body ≡ false → PartsGive order body run.0 run.1 → run_items (run ∷ runs) ≡ [] → ⊥
    not_none run runs n p e = not_true n (empty_parts order body run.0 run.1 p (front_empty run.0 (run_items runs) e).0)

    runs_split : (hi : ℕ) → PartsDiffer body → AllDiffer after → may_be_empty body ≡ false → OneSplit order (PartsGive order body) (follow_body hi body after) → (rs qs : List Run) → AllRuns rs → AllRuns qs → length rs ≤ hi → length qs ≤ hi
        → (length rs ≡ length qs) ⊎ AreApart (starts body) after → (r s : List Item) → Follows order after r → Follows order after s → run_items rs ++ r ≡ run_items qs ++ s
        → (run_items rs ≡ run_items qs) × (map run_value rs ≡ map run_value qs)
    runs_split hi d g n h [] [] p q lr lq c r s fr fs e = (refl, refl)
    runs_split hi d g n h [] (y ∷ qs) p q lr lq (inl c) r s fr fs e = absurd (omega arith)
    runs_split hi d g n h [] (y ∷ qs) p q lr lq (inr c) r s fr fs e =
        absurd (no_start order (starts body) after (run_items (y ∷ qs)) s (starts_differ body d) g c (body_runs_begin (y ∷ qs) q) (not_none y qs n q.0) (subst (Follows order after) e fr))
    runs_split hi d g n h (x ∷ rs) [] p q lr lq (inl c) r s fr fs e = absurd (omega arith)
    runs_split hi d g n h (x ∷ rs) [] p q lr lq (inr c) r s fr fs e =
        absurd (no_start order (starts body) after (run_items (x ∷ rs)) r (starts_differ body d) g c (body_runs_begin (x ∷ rs) p) (not_none x rs n p.0) (subst (Follows order after) (sym e) fs))
    runs_split hi d g n h (x ∷ rs) (y ∷ qs) p q lr lq c r s fr fs e =
        let f : x.0 ++ (run_items rs ++ r) ≡ y.0 ++ (run_items qs ++ s) = sym (append_assoc x.0 (run_items rs) r) ∙ (e ∙ append_assoc y.0 (run_items qs) s) in
        let one = h x.0 y.0 (run_items rs ++ r) (run_items qs ++ s) x.1 y.1 p.0 q.0 (next_follows hi rs r lr p.1 fr) (next_follows hi qs s lq q.1 fs) f in
        let k : y.0 ++ (run_items rs ++ r) ≡ y.0 ++ (run_items qs ++ s) = ap (λ (z : List Item). z ++ (run_items rs ++ r)) (sym one.0) ∙ f in
        let more = runs_split hi d g n h rs qs p.1 q.1 (omega arith) (omega arith) (fewer c) r s fr fs (append_cancel_left y.0 _ _ k) in
        (ap (λ (z : List Item). z ++ run_items rs) one.0 ∙ ap (λ (z : List Item). y.0 ++ z) more.0, ap (λ (z : List Value). v.Group z ∷ map run_value rs) one.1 ∙ ap (λ (z : List Value). run_value y ∷ z) more.1)
      where
        fewer : (suc (length rs) ≡ suc (length qs)) ⊎ AreApart (starts body) after → (length rs ≡ length qs) ⊎ AreApart (starts body) after
        fewer (inl c) = inl (omega arith)
        fewer (inr c) = inr c

  pub many_split : (at lo hi : ℕ) (sh : List (Unit {0})) (body : Row_of-Part _) (after : List Kind) → PartsDiffer body → AllDiffer after → may_be_empty body ≡ false → (lo ≡ hi) ⊎ AreApart (starts body) after
      → OneSplit order (PartsGive order body) (follow_body hi body after) → OneSplit order (PartGives order (Many' at lo hi sh body)) after
  unfolding Gives
  many_split at lo hi sh body after d g n c h xs ys r s u w p q fr fs e =
      let f : run_items p.0 ++ r ≡ run_items q.0 ++ s = ap (λ (x : List Item). x ++ r) (sym p.1) ∙ (e ∙ ap (λ (x : List Item). x ++ s) q.1) in
      let both = runs_split body after hi d g n h p.0 q.0 p.4 q.4 p.3.1 q.3.1 (counted c) r s fr fs f in
      (p.1 ∙ (both.0 ∙ sym q.1), p.2 ∙ (ap (λ (l : List Value). v.Many l) both.1 ∙ sym q.2))
    where
      counted : (lo ≡ hi) ⊎ AreApart (starts body) after → (length p.0 ≡ length q.0) ⊎ AreApart (starts body) after
      counted (inl c) = inl (omega (arith, c, p.3.0, p.3.1, q.3.0, q.3.1))
      counted (inr c) = inr c

  -- ---- ways

  one_of_two : (at later : ℕ) {m n : _} (a : Row_of-Part m) (b : Row_of-Part n) (after : List Kind) → PartsDiffer a → PartsDiffer b → AllDiffer after → Kept (two_ways at a later b after)
      → (xs ys r s : List Item) (us ws : List Value) → PartsGive order a xs us → PartsGive order b ys ws → Follows order after r → Follows order after s → xs ++ r ≡ ys ++ s → ⊥
  one_of_two at later a b after d f g h [] [] r s us ws p q fr fs e = h.1.0 (empty_parts order a [] us p refl) (empty_parts order b [] ws q refl)
  one_of_two at later a b after d f g h [] (y ∷ ys) r s us ws p q fr fs e =
      no_start order (starts b) after (y ∷ ys) s (starts_differ b f) g (h.1.1.0 (empty_parts order a [] us p refl)) (begin order b (y ∷ ys) ws q) (λ z. cc) (subst (Follows order after) e fr)
  one_of_two at later a b after d f g h (x ∷ xs) [] r s us ws p q fr fs e =
      no_start order (starts a) after (x ∷ xs) r (starts_differ a d) g (h.1.1.1.0 (empty_parts order b [] ws q refl)) (begin order a (x ∷ xs) us p) (λ z. cc) (subst (Follows order after) (sym e) fs)
  one_of_two at later a b after d f g h (x ∷ xs) (y ∷ ys) r s us ws p q fr fs e =
      let same : x ≡ y = cc in
      are_apart order (starts a) (starts b) y (starts_differ a d) (starts_differ b f) h.0 (subst (IsUnder order (starts a)) same (begin order a (x ∷ xs) us p)) (begin order b (y ∷ ys) ws q)

  pub later_way : (at : ℕ) {m : _} (a : Row_of-Part m) {n : _} (row : Row_of-Way n) (j : ℕ) (after : List Kind) → PartsDiffer a → GroupsDiffer row → AllDiffer after → Kept (way_beside_each at a row after)
      → (xs ys r s : List Item) (us ws : List Value) → PartsGive order a xs us → WayGives order row j ys ws → Follows order after r → Follows order after s → xs ++ r ≡ ys ++ s → ⊥
  unfolding Gives KeysDiffer
  later_way at a end_of-Way j after d f g h xs ys r s us ws p q fr fs e = absurd q
  later_way at a (more_of-Way later sh body rest) zero after d f g h xs ys r s us ws p q fr fs e =
      let both = kept_both (two_ways at a later body after) (way_beside_each at a rest after) h in
      one_of_two at later a body after d f.0 g both.0 xs ys r s us ws p q fr fs e
  later_way at a (more_of-Way later sh body rest) (suc j) after d f g h xs ys r s us ws p q fr fs e =
      let both = kept_both (two_ways at a later body after) (way_beside_each at a rest after) h in
      later_way at a rest j after d f.1 g both.1 xs ys r s us ws p q fr fs e
