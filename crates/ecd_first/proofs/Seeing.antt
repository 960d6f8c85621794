-- Faults that have been taken in.
use Rattle.std.proofs.Common.{ℕ, ◌+◌, ◌≡◌, ◌<◌, ◌≤◌, ◌⊎◌, inl, inr, Bool, true, false, List, [], ◌∷◌, ◌++◌, length, take, get_or, refl, ap, sym, ◌∙◌, subst, arith}
use Rattle.std.specs.Prelude.{Option, Some, None, nat_lt}
use Rattle.std.specs.List.{Contains}
use Rattle.std.proofs.lemmas.Bool.Decides.{nat_tests}
use Rattle.std.proofs.lemmas.List.{take_more}
use Rattle.std.proofs.lemmas.List.Elements.{Contains-push_cases, Contains-append_left, Contains-push}
use Rattle.ecd_first.specs.declared.first.Broken.{Broken}
use Rattle.ecd_first.specs.Firsts.{Rank, IsLess, offset, Faults, ComesNoLater, IsNoLater, Sees, When, EachOf, AnyBelow}

below_or_at : (k i : ℕ) → k < i + 1 → (k < i) ⊎ (k ≡ i)
below_or_at k i h = by_test (nat_lt k i) refl
  where
    by_test : (b : Bool) → nat_lt k i ≡ b → (k < i) ⊎ (k ≡ i)
    by_test true e = inl (grind (arith, nat_tests))
    by_test false e = inr (grind (arith, nat_tests))

-- ---- ranks

less_then : (a b c : Rank) → IsLess a b → IsLess b c → IsLess a c
less_then a b c (inl p) (inl q) = inl (omega arith)
less_then a b c (inl p) (inr q) = inl (omega (arith, p, q.0))
less_then a b c (inr p) (inl q) = inl (omega (arith, p.0, q))
less_then a b c (inr p) (inr q) = inr (p.0 ∙ q.0, omega (arith, p.1, q.1))

-- bytes' offsets
pub offsets : (place rule other_place other : ℕ) → ComesNoLater offset place rule other_place other → (place < other_place) ⊎ ((place ≡ other_place) × (rule ≤ other))
offsets place rule other_place other (inl (inl h)) = inl h
offsets place rule other_place other (inl (inr h)) = let none : ⊥ = omega (arith, h.1) in absurd none
offsets place rule other_place other (inr h) = inr (ap (λ (r : Rank). r.major) h.0, h.1)

-- both of two kinds of faults
abbrev pub Either : {X : Type 0} → Faults X → Faults X → Faults X
Either P Q place rule = P place rule ⊎ Q place rule

module _ {X : Type 0} (rank : X → Rank) where
  -- ---- the order

  pub no_later_itself : (b : Broken X) → IsNoLater rank (Some b) b.place b.rule
  no_later_itself b = inr (refl, omega arith)

  pub no_later_then : (b c : Broken X) (place : X) (rule : ℕ) → IsNoLater rank (Some c) b.place b.rule → IsNoLater rank (Some b) place rule → IsNoLater rank (Some c) place rule
  no_later_then b c place rule (inl p) (inl q) = inl (less_then (rank c.place) (rank b.place) (rank place) p q)
  no_later_then b c place rule (inl p) (inr q) = inl (subst (IsLess (rank c.place)) q.0 p)
  no_later_then b c place rule (inr p) (inl q) = inl (subst (λ (r : Rank). IsLess r (rank place)) (sym p.0) q)
  no_later_then b c place rule (inr p) (inr q) = inr (p.0 ∙ q.0, omega (arith, p.1, q.1))

  passes_on : (mid new : Option (Broken X)) → ((b : Broken X) → mid ≡ Some b → IsNoLater rank new b.place b.rule) → (place : X) (rule : ℕ) → IsNoLater rank mid place rule → IsNoLater rank new place rule
  passes_on None new kept place rule h = absurd h
  passes_on (Some b) None kept place rule h = absurd (kept b refl)
  passes_on (Some b) (Some c) kept place rule h = no_later_then b c place rule (kept b refl) h

  -- ---- one after the other

  pub sees_nothing : (o : Option (Broken X)) → Sees rank o o (λ _ _. ⊥)
  sees_nothing o = record {
    met = λ b e. inl e;
    kept = λ b e. subst (λ (x : Option (Broken X)). IsNoLater rank x b.place b.rule) (sym e) (no_later_itself b);
    taken = λ place rule h. absurd h;
  }

  module _ (old mid new : Option (Broken X)) (P Q : Faults X) where
    pub sees_then : Sees rank old mid P → Sees rank mid new Q → Sees rank old new (Either P Q)
    sees_then s t = record {
      met = λ b e. second b (t.met b e);
      kept = λ b e. passes_on mid new t.kept b.place b.rule (s.kept b e);
      taken = taken;
    }
      where
        first : (b : Broken X) → (old ≡ Some b) ⊎ P b.place b.rule → (old ≡ Some b) ⊎ (P b.place b.rule ⊎ Q b.place b.rule)
        first b (inl e) = inl e
        first b (inr h) = inr (inl h)

        second : (b : Broken X) → (mid ≡ Some b) ⊎ Q b.place b.rule → (old ≡ Some b) ⊎ (P b.place b.rule ⊎ Q b.place b.rule)
        second b (inl e) = first b (s.met b e)
        second b (inr h) = inr (inr h)

        taken : (place : X) (rule : ℕ) → P place rule ⊎ Q place rule → IsNoLater rank new place rule
        taken place rule (inl h) = passes_on mid new t.kept place rule (s.taken place rule h)
        taken place rule (inr h) = t.taken place rule h

  -- the same faults in other words
  module _ (old new : Option (Broken X)) (P Q : Faults X) where
    pub sees_same : ((place : X) (rule : ℕ) → P place rule → Q place rule) → ((place : X) (rule : ℕ) → Q place rule → P place rule) → Sees rank old new P → Sees rank old new Q
    sees_same to from s = record {
      met = λ b e. met b (s.met b e);
      kept = s.kept;
      taken = λ place rule h. s.taken place rule (from place rule h);
    }
      where
        met : (b : Broken X) → (old ≡ Some b) ⊎ P b.place b.rule → (old ≡ Some b) ⊎ Q b.place b.rule
        met b (inl e) = inl e
        met b (inr h) = inr (to b.place b.rule h)

  -- ---- the faults of each of a list

  module _ {A : Type 0} (faults : A → Faults X) (first : Option (Broken X)) where
    pub sees_none : (xs : List A) → Sees rank first first (EachOf faults (take 0 xs))
    sees_none xs = sees_same first first (λ _ _. ⊥) (EachOf faults (take 0 xs)) (λ place rule h. absurd h) (λ place rule e. let none : ⊥ = omega (arith, e.among.1) in none) (sees_nothing first)

  module _ {A : Type 0} (faults : A → Faults X) (old mid new : Option (Broken X)) (xs : List A) (i : ℕ) (x : A) where
    pub sees_more : i < length xs → x ≡ get_or xs i x → Sees rank old mid (EachOf faults (take i xs)) → Sees rank mid new (faults x) → Sees rank old new (EachOf faults (take (i + 1) xs))
    sees_more h e s t = sees_same old new (Either (EachOf faults (take i xs)) (faults x)) (EachOf faults (take (i + 1) xs)) to from (sees_then old mid new (EachOf faults (take i xs)) (faults x) s t)
      where
        more : take (i + 1) xs ≡ take i xs ++ x ∷ []
        more = take_more xs i x h ∙ ap (λ y. take i xs ++ y ∷ []) (sym e)

        to : (place : X) (rule : ℕ) → Either (EachOf faults (take i xs)) (faults x) place rule → EachOf faults (take (i + 1) xs) place rule
        to place rule (inl w) = record { one = w.one; among = subst (λ (l : List A). Contains l w.one) (sym more) (Contains-append_left (take i xs) (x ∷ []) w.one w.among); broken = w.broken }
        to place rule (inr b) = record { one = x; among = subst (λ (l : List A). Contains l x) (sym more) (Contains-push (take i xs) x); broken = b }

        from : (place : X) (rule : ℕ) → EachOf faults (take (i + 1) xs) place rule → Either (EachOf faults (take i xs)) (faults x) place rule
        from place rule w = by_place (Contains-push_cases (take i xs) x w.one (subst (λ (l : List A). Contains l w.one) more w.among))
          where
            by_place : Contains (take i xs) w.one ⊎ (x ≡ w.one) → Either (EachOf faults (take i xs)) (faults x) place rule
            by_place (inl c) = inl (record { one = w.one; among = c; broken = w.broken })
            by_place (inr s) = inr (subst (λ (y : A). faults y place rule) (sym s) w.broken)

  -- ---- the faults of each rule

  module _ (faults : ℕ → Faults X) where
    pub sees_none_below : (first : Option (Broken X)) → Sees rank first first (AnyBelow faults 0)
    sees_none_below first = sees_same first first (λ _ _. ⊥) (AnyBelow faults 0) (λ place rule h. absurd h) (λ place rule w. let none : ⊥ = omega (arith, w.below) in none) (sees_nothing first)

    module _ (old mid new : Option (Broken X)) (i : ℕ) where
      pub sees_one_more : Sees rank old mid (AnyBelow faults i) → Sees rank mid new (faults i) → Sees rank old new (AnyBelow faults (i + 1))
      sees_one_more s t = sees_same old new (Either (AnyBelow faults i) (faults i)) (AnyBelow faults (i + 1)) to from (sees_then old mid new (AnyBelow faults i) (faults i) s t)
        where
          to : (place : X) (rule : ℕ) → Either (AnyBelow faults i) (faults i) place rule → AnyBelow faults (i + 1) place rule
          to place rule (inl w) = record { index = w.index; below = omega (arith, w.below); broken = w.broken }
          to place rule (inr b) = record { index = i; below = omega arith; broken = b }

          from : (place : X) (rule : ℕ) → AnyBelow faults (i + 1) place rule → Either (AnyBelow faults i) (faults i) place rule
          from place rule w = by_order (below_or_at w.index i w.below)
            where
              by_order : (w.index < i) ⊎ (w.index ≡ i) → Either (AnyBelow faults i) (faults i) place rule
              by_order (inl h) = inl (record { index = w.index; below = h; broken = w.broken })
              by_order (inr e) = inr (subst (λ (k : ℕ). faults k place rule) e w.broken)

  -- ---- tests

  -- the faults hold where the test does
  pub sees_when : (old new : Option (Broken X)) (holds : Bool) (at : X) (number : ℕ) (P : Type 0) → (holds ≡ true → P) → (P → holds ≡ true) → Sees rank old new (When holds at number) → Sees rank old new (λ place rule. (place ≡ at) × (rule ≡ number) × P)
  sees_when old new holds at number P to from = sees_same old new (When holds at number) (λ place rule. (place ≡ at) × (rule ≡ number) × P) (λ place rule w. (w.place_is, w.rule_is, to w.so)) (λ place rule w. record { so = from w.2; place_is = w.0; rule_is = w.1 })

  -- ---- the end

  -- what is the first of all
  pub first_is : (new : Option (Broken X)) (faults : Faults X) (b : Broken X) → Sees rank None new faults → new ≡ Some b → faults b.place b.rule × ((place : X) (rule : ℕ) → faults place rule → ComesNoLater rank b.place b.rule place rule)
  first_is new faults b s e = (here (s.met b e), λ place rule h. subst (λ (x : Option (Broken X)). IsNoLater rank x place rule) e (s.taken place rule h))
    where
      here : (None ≡ Some b) ⊎ faults b.place b.rule → faults b.place b.rule
      here (inl x) = absurd cc
      here (inr h) = h

  pub none_is : (new : Option (Broken X)) (faults : Faults X) → Sees rank None new faults → new ≡ None → (place : X) (rule : ℕ) → faults place rule → ⊥
  none_is new faults s e place rule h = subst (λ (x : Option (Broken X)). IsNoLater rank x place rule) e (s.taken place rule h)
