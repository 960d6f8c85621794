-- The first fault of a program.
use Rattle.std.proofs.Common.{◌≡◌, ℕ, zero, suc, ◌<◌, ◌≤◌, List, [], ◌∷◌, length, get_or, refl, ap, sym, ◌∙◌, subst, arith, Bool, true, false, ◌⊎◌, inl, inr, ⊎_elim}
use Rattle.std.specs.Prelude.{Option, Some, None, if◌then◌else◌, Contains, map, nat_eq, nat_lt}
use Rattle.std.proofs.lemmas.Bool.{eqb-true, eqb-false, eq-eqb, ltb-true, ltb-false, lt-ltb}
use Rattle.std.proofs.lemmas.List.Elements.{Contains-append_left, Contains-append_right, Contains-append_cases}
use Rattle.ecd_cast.specs.declared.tree.Program.{Program}
use Rattle.ecd_cast.specs.Kinds.{unless}
use Rattle.ecd_cast.specs.Validity.{Fault, IsValid, is_in_order, IsBefore, IsFirstFault, first_of, faults_from, faults_of, depth_fault, call_depth_of}
use Rattle.ecd_cast.specs.Laws.{FirstFault}
use Rattle.ecd_cast.proofs.SmallRules.{file_small, small_each}

-- how one fault stands before another
abbrev Precedes : Fault → Fault → Type 0
Precedes a b = (a.item < b.item) ⊎ ((a.item ≡ b.item) × ((a.statement < b.statement) ⊎ ((a.statement ≡ b.statement) × (a.rule < b.rule))))

-- f is g or stands before it
abbrev Reaches : Fault → Fault → Type 0
Reaches f g = (g ≡ f) ⊎ Precedes f g

same_fault : (a b : Fault) → a.rule ≡ b.rule → a.item ≡ b.item → a.statement ≡ b.statement → a ≡ b
same_fault a b r i s = λ j. record { rule = r j; item = i j; statement = s j }

-- ---- the order

pub not_equal : (a b : ℕ) → (a ≡ b → ⊥) → nat_eq a b ≡ false
not_equal a b apart = by_test (nat_eq a b) refl
  where
    by_test : (t : Bool) → nat_eq a b ≡ t → t ≡ false
    by_test false h = refl
    by_test true h = absurd (apart (eqb-true a b h))

before_so : (a b : Fault) → is_in_order a b ≡ true → Precedes a b
before_so a b e = by_item (nat_eq a.item b.item) refl
  where
    by_statement : a.item ≡ b.item → (t : Bool) → nat_eq a.statement b.statement ≡ t → (if t then nat_lt a.rule b.rule else nat_lt a.statement b.statement) ≡ true → Precedes a b
    by_statement i true h k = inr (i, inr (eqb-true a.statement b.statement h, ltb-true a.rule b.rule k))
    by_statement i false h k = inr (i, inl (ltb-true a.statement b.statement k))

    by_item : (t : Bool) → nat_eq a.item b.item ≡ t → Precedes a b
    by_item true h = by_statement (eqb-true a.item b.item h) (nat_eq a.statement b.statement) refl (rw h at e)
    by_item false h = inl (ltb-true a.item b.item (rw h at e))

not_before_so : (a b : Fault) → is_in_order a b ≡ false → Reaches b a
not_before_so a b e = by_item (nat_eq a.item b.item) refl
  where
    by_rule : a.item ≡ b.item → a.statement ≡ b.statement → b.rule ≤ a.rule → (t : Bool) → nat_eq a.rule b.rule ≡ t → Reaches b a
    by_rule i s le true h = inl (same_fault a b (eqb-true a.rule b.rule h) i s)
    by_rule i s le false h = let apart = eqb-false a.rule b.rule h in let lt : b.rule < a.rule = omega (arith, le, apart) in inr (inr (sym i, inr (sym s, lt)))

    by_statement : a.item ≡ b.item → (t : Bool) → nat_eq a.statement b.statement ≡ t → (if t then nat_lt a.rule b.rule else nat_lt a.statement b.statement) ≡ false → Reaches b a
    by_statement i true h k = by_rule i (eqb-true a.statement b.statement h) (ltb-false a.rule b.rule k) (nat_eq a.rule b.rule) refl
    by_statement i false h k =
        let apart = eqb-false a.statement b.statement h in
        let le = ltb-false a.statement b.statement k in
        let lt : b.statement < a.statement = omega (arith, le, apart) in
        inr (inr (sym i, inl lt))

    by_item : (t : Bool) → nat_eq a.item b.item ≡ t → Reaches b a
    by_item true h = by_statement (eqb-true a.item b.item h) (nat_eq a.statement b.statement) refl (rw h at e)
    by_item false h =
        let apart = eqb-false a.item b.item h in
        let le = ltb-false a.item b.item (rw h at e) in
        let lt : b.item < a.item = omega (arith, le, apart) in
        inr (inl lt)

so_before : (a b : Fault) → Precedes a b → is_in_order a b ≡ true
so_before a b (inl lt) = rw (not_equal a.item b.item (λ e. absurd (omega (arith, lt, e))), lt-ltb a.item b.item lt)
so_before a b (inr (i, inl lt)) = rw (eq-eqb a.item b.item i, not_equal a.statement b.statement (λ e. absurd (omega (arith, lt, e))), lt-ltb a.statement b.statement lt)
so_before a b (inr (i, inr (s, lt))) = rw (eq-eqb a.item b.item i, eq-eqb a.statement b.statement s, lt-ltb a.rule b.rule lt)

order_then : (a b c : Fault) → Precedes a b → Precedes b c → Precedes a c
order_then a b c h k = ⊎_elim
    (λ (lt : a.item < b.item). ⊎_elim (λ (more : b.item < c.item). let all : a.item < c.item = omega arith in inl all) (λ x. let same = x.0 in let all : a.item < c.item = omega (arith, same) in inl all) k)
    (λ x. ⊎_elim
    (λ (more : b.item < c.item). let same = x.0 in let all : a.item < c.item = omega (arith, same) in inl all)
    (λ y. inr (x.0 ∙ y.0, statements x.1 y.1))
    k)
    h
  where
    statements : (a.statement < b.statement) ⊎ ((a.statement ≡ b.statement) × (a.rule < b.rule)) → (b.statement < c.statement) ⊎ ((b.statement ≡ c.statement) × (b.rule < c.rule)) →
        (a.statement < c.statement) ⊎ ((a.statement ≡ c.statement) × (a.rule < c.rule))
    statements x y = ⊎_elim
        (λ (lt : a.statement < b.statement). ⊎_elim (λ (more : b.statement < c.statement). let all : a.statement < c.statement = omega arith in inl all) (λ z. let same = z.0 in let all : a.statement < c.statement = omega (arith, same) in inl all) y)
        (λ w. ⊎_elim
        (λ (more : b.statement < c.statement). let same = w.0 in let all : a.statement < c.statement = omega (arith, same) in inl all)
        (λ z. let lt = w.1 in let more = z.1 in let all : a.rule < c.rule = omega (arith, lt, more) in inr (w.0 ∙ z.0, all))
        y)
        x

reaches_then : (a b c : Fault) → Reaches a b → Reaches b c → Reaches a c
reaches_then a b c h k = ⊎_elim
    (λ (same : b ≡ a). subst (λ (x : Fault). Reaches x c) same k)
    (λ lt. ⊎_elim (λ (same : c ≡ b). subst (λ (x : Fault). Reaches a x) (sym same) (inr lt)) (λ more. inr (order_then a b c lt more)) k)
    h

-- ---- the first of some

abbrev AllReached : Fault → List Fault → Type 0
AllReached f [] = Unit {0}
AllReached f (g ∷ gs) = Reaches f g × AllReached f gs

some_stays : (g : Fault) (fs : List Fault) → first_of (Some g) fs ≡ None → ⊥
some_stays g [] e = cc
some_stays g (f ∷ fs) e = by_test (is_in_order f g) refl (some_stays f fs) (some_stays g fs)
  where
    by_test : (b : Bool) → is_in_order f g ≡ b → (first_of (Some f) fs ≡ None → ⊥) → (first_of (Some g) fs ≡ None → ⊥) → ⊥
    by_test true t h k = h (rw t at e)
    by_test false t h k = k (rw t at e)

pub none_empty : (fs : List Fault) → first_of None fs ≡ None → fs ≡ []
none_empty [] e = refl
none_empty (f ∷ fs) e = absurd (some_stays f fs e)

record IsLeast (f g : Fault) (fs : List Fault) : Type 0 where
  pub below : Reaches f g
  pub all : AllReached f fs
  pub among : Contains (g ∷ fs) f

first_is : (f : Fault) (fs : List Fault) → Contains (f ∷ fs) f
first_is f fs = (0, omega arith, refl)

one_more : (x g f : Fault) (fs : List Fault) → Contains (g ∷ fs) f → Contains (g ∷ (x ∷ fs)) f
one_more x g f fs c = ⊎_elim
    (λ h. Contains-append_left (g ∷ []) (x ∷ fs) f h)
    (λ h. Contains-append_right (g ∷ (x ∷ [])) fs f h)
    (Contains-append_cases (g ∷ []) fs f c)

least : (f g : Fault) (fs : List Fault) → first_of (Some g) fs ≡ Some f → IsLeast f g fs
least f g [] e = let same : g ≡ f = cc in record { below = inl same; all = tt; among = subst (λ (x : Fault). Contains (x ∷ []) f) (sym same) (first_is f []) }
least f g (x ∷ fs) e = by_test (is_in_order x g) refl (least f x fs) (least f g fs)
  where
    by_test : (b : Bool) → is_in_order x g ≡ b → (first_of (Some x) fs ≡ Some f → IsLeast f x fs) → (first_of (Some g) fs ≡ Some f → IsLeast f g fs) → IsLeast f g (x ∷ fs)
    by_test true t h k =
        let r = h (rw t at e) in
        record { below = reaches_then f x g r.below (inr (before_so x g t)); all = (r.below, r.all); among = Contains-append_right (g ∷ []) (x ∷ fs) f r.among }
    by_test false t h k =
        let r = k (rw t at e) in
        record { below = r.below; all = (reaches_then f g x r.below (not_before_so x g t), r.all); among = one_more x g f fs r.among }

reached_at : (f : Fault) (fs : List Fault) (k : ℕ) (d : Fault) → AllReached f fs → k < length fs → Reaches f (get_or fs k d)
reached_at f [] k d h lt = absurd (omega arith)
reached_at f (g ∷ fs) zero d h lt = h.0
reached_at f (g ∷ fs) (suc k) d h lt = reached_at f fs k d h.1 (omega arith)

found_first : (f : Fault) (fs : List Fault) → first_of None fs ≡ Some f → Contains fs f × ((g : Fault) → Contains fs g → Reaches f g)
found_first f [] e = absurd cc
found_first f (g ∷ fs) e =
    let r = least f g fs e in
    (r.among, λ h c. subst (λ (x : Fault). Reaches f x) c.2 (reached_at f (g ∷ fs) c.0 h (r.below, r.all) c.1))

-- ---- programs

seven : (b : Bool) (g : Fault) → Contains (map (λ r. let f : Fault = record { rule = r; item = 0; statement = 0 } in f) (unless b 7)) g → g.rule ≡ 7
seven true g c = let lt = c.1 in absurd (omega arith)
seven false g c = only c.0 c.1 c.2
  where
    only : (k : ℕ) → k < length (map (λ r. let f : Fault = record { rule = r; item = 0; statement = 0 } in f) (7 ∷ [])) → get_or (map (λ r. let f : Fault = record { rule = r; item = 0; statement = 0 } in f) (7 ∷ [])) k g ≡ g → g.rule ≡ 7
    only zero h e = sym (ap (λ (x : Fault). x.rule) e)
    only (suc k) h e = absurd (omega arith)

pub first_of_items : (p : Program) (f : Fault) → first_of None (faults_from [] p.items 0) ≡ Some f → IsFirstFault p f
first_of_items p f e =
    let found = found_first f (faults_from [] p.items 0) e in
    let small = file_small [] p.items 0 in
    let here = small_each (faults_from [] p.items 0) f small found.0 in
    record {
      broken = Contains-append_left (faults_from [] p.items 0) (depth_fault p) f found.0;
      first = λ g c. ⊎_elim
          (λ h. ⊎_elim (λ (same : g ≡ f). inl same) (λ lt. inr (here, inr (small_each (faults_from [] p.items 0) g small h, so_before f g lt))) (found.1 g h))
          (λ h. inr (here, inl (seven (nat_eq p.depth (call_depth_of p.items)) g h)))
          (Contains-append_cases (faults_from [] p.items 0) (depth_fault p) g c);
    }

abbrev pub depth_is_wrong : Fault
depth_is_wrong = record { rule = 7; item = 0; statement = 0 }

only_depth : (p : Program) → faults_from [] p.items 0 ≡ [] → nat_eq p.depth (call_depth_of p.items) ≡ false → faults_of p ≡ depth_is_wrong ∷ []
only_depth p e h = rw (e, h)

one_only : (f g : Fault) → Contains (f ∷ []) g → g ≡ f
one_only f g c = at_place c.0 c.1 c.2
  where
    at_place : (k : ℕ) → k < length (f ∷ []) → get_or (f ∷ []) k g ≡ g → g ≡ f
    at_place zero h e = sym e
    at_place (suc k) h e = absurd (omega arith)

pub first_is_depth : (p : Program) → faults_from [] p.items 0 ≡ [] → nat_eq p.depth (call_depth_of p.items) ≡ false → IsFirstFault p depth_is_wrong
first_is_depth p e h =
    let all = only_depth p e h in
    record {
      broken = subst (λ (fs : List Fault). Contains fs depth_is_wrong) (sym all) (first_is depth_is_wrong []);
      first = λ g c. inl (one_only depth_is_wrong g (subst (λ (fs : List Fault). Contains fs g) all c));
    }

-- a program that is not valid has a first fault
some_first : (p : Program) → (IsValid p → ⊥) → (f : Fault) × IsFirstFault p f
some_first p bad = by_first (first_of None (faults_from [] p.items 0)) refl
  where
    by_depth : faults_from [] p.items 0 ≡ [] → (b : Bool) → nat_eq p.depth (call_depth_of p.items) ≡ b → (f : Fault) × IsFirstFault p f
    by_depth sound true h = absurd (bad (record { sound = sound; depth = eqb-true p.depth (call_depth_of p.items) h }))
    by_depth sound false h = (depth_is_wrong, first_is_depth p sound h)

    by_first : (o : Option Fault) → first_of None (faults_from [] p.items 0) ≡ o → (f : Fault) × IsFirstFault p f
    by_first (Some f) e = (f, first_of_items p f e)
    by_first None e = by_depth (none_empty (faults_from [] p.items 0) e) (nat_eq p.depth (call_depth_of p.items)) refl

-- a valid program has no fault
no_fault : (p : Program) (f : Fault) → IsValid p → IsFirstFault p f → ⊥
no_fault p f v h = none (faults_of p) f (clean p v) h.broken
  where
    none : (fs : List Fault) (f : Fault) → fs ≡ [] → Contains fs f → ⊥
    none [] f e c = search Rattle.std.proofs.Common.rules
    none (g ∷ gs) f e c = absurd cc

    clean : (p : Program) → IsValid p → faults_of p ≡ []
    clean p v =
        let same : nat_eq p.depth (call_depth_of p.items) ≡ true = eq-eqb _ _ v.depth in
        rw (v.sound, same)

-- no two faults stand before each other
not_both : (a b : Fault) → IsBefore a b → IsBefore b a → ⊥
not_both a b h k = ⊎_elim (λ (last : b.rule ≡ 7). absurd (omega arith)) (λ x. ⊎_elim (λ (last : a.rule ≡ 7). absurd (omega arith)) (λ y. ordered (before_so a b x.1) (before_so b a y.1)) k.1) h.1
  where
    statements : (a.statement < b.statement) ⊎ ((a.statement ≡ b.statement) × (a.rule < b.rule)) → (b.statement < a.statement) ⊎ ((b.statement ≡ a.statement) × (b.rule < a.rule)) → ⊥
    statements x y = ⊎_elim (λ (lt : a.statement < b.statement). ⊎_elim (λ (gt : b.statement < a.statement). absurd (omega arith)) (λ e. let same = e.0 in absurd (omega arith)) y)
        (λ e. let same = e.0 in ⊎_elim (λ (gt : b.statement < a.statement). absurd (omega arith)) (λ f. let lt = e.1 in let gt = f.1 in absurd (omega arith)) y) x

    ordered : Precedes a b → Precedes b a → ⊥
    ordered x y = ⊎_elim (λ (lt : a.item < b.item). ⊎_elim (λ (gt : b.item < a.item). absurd (omega arith)) (λ e. let same = e.0 in absurd (omega arith)) y)
        (λ e. let same = e.0 in ⊎_elim (λ (gt : b.item < a.item). absurd (omega arith)) (λ f. statements e.1 f.1) y) x

one_first : (p : Program) (f g : Fault) → IsFirstFault p f → IsFirstFault p g → f ≡ g
one_first p f g h k = ⊎_elim (λ (e : g ≡ f). sym e) (λ (x : IsBefore f g). ⊎_elim (λ (e : f ≡ g). e) (λ (y : IsBefore g f). absurd (not_both f g x y)) (k.first f h.broken)) (h.first g k.broken)

pub first_fault : FirstFault
first_fault = record { some = some_first; none = no_fault; one = one_first }
