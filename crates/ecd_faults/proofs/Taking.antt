-- Faults that are taken in.
use Rattle.std.proofs.Common.{ℕ, ◌≡◌, ◌<◌, ◌≤◌, ◌⊎◌, inl, inr, Bool, true, false, List, [], ◌∷◌, ◌++◌, refl, ap, sym, ◌∙◌, subst, arith}
use Rattle.std.specs.Prelude.{Option, Some, None, nat_lt}
use Rattle.std.proofs.lemmas.Bool.Decides.{nat_tests}
use Rattle.ecd_first.specs.declared.first.Broken.{Broken}
use Rattle.ecd_first.specs.Firsts.{later, offset}
use Rattle.ecd_core.specs.Lists.{IsIn}
use Rattle.ecd_expansion.specs.declared.rule.ElabRule.{ElabRule}
use Rattle.ecd_expansion.specs.declared.rule.ElabRule.TheVariants.{E1, E2, E3, E4, E5, E6, L1, L2, L3, L4, U1, U2, U3, U4}
use Rattle.ecd_expansion.specs.Expansion.{rank, ComesNoLater, IsLeast}
use Rattle.ecd_expansion.specs.Told.{Fault, fault}
use Rattle.ecd_faults.specs.Taking.{rule_of, broken_of, earlier_of, first_after, NoneOfAll, LeastOfAll, TakenTogether, TakenApart}

-- ---- the order

-- the one comes later than the other: by place, then by rank
IsLater : Broken ℕ → Broken ℕ → Type 0
IsLater a b = (b.place < a.place) ⊎ ((a.place ≡ b.place) × (b.rule < a.rule))

IsNoLater : Broken ℕ → Broken ℕ → Type 0
IsNoLater a b = (a.place < b.place) ⊎ ((a.place ≡ b.place) × (a.rule ≤ b.rule))

decided : (a b : Broken ℕ) → ((later offset a b ≡ true) × IsLater a b) ⊎ ((later offset a b ≡ false) × IsNoLater a b)
unfolding IsLater IsNoLater
decided a b = by_tests (nat_lt b.place a.place) (nat_lt a.place b.place) (nat_lt b.rule a.rule) refl refl refl
  where
    by_tests : (s t u : Bool) → nat_lt b.place a.place ≡ s → nat_lt a.place b.place ≡ t → nat_lt b.rule a.rule ≡ u
        → ((later offset a b ≡ true) × IsLater a b) ⊎ ((later offset a b ≡ false) × IsNoLater a b)
    by_tests true t u e f g = inl (rw e refl, inl (grind (arith, nat_tests)))
    by_tests false true u e f g = inr (rw (e, f) refl, inl (grind (arith, nat_tests)))
    by_tests false false true e f g = inl (rw (e, f, g) refl, inr (grind (arith, nat_tests), grind (arith, nat_tests)))
    by_tests false false false e f g = inr (rw (e, f, g) refl, inr (grind (arith, nat_tests), grind (arith, nat_tests)))

later_then : (a b c : Broken ℕ) → IsLater a b → IsLater b c → IsNoLater a c → ⊥
unfolding IsLater IsNoLater
later_then a b c (inl p) (inl q) (inl r) = omega arith
later_then a b c (inl p) (inl q) (inr r) = let e = r.0 in omega arith
later_then a b c (inl p) (inr q) (inl r) = let e = q.0 in omega arith
later_then a b c (inl p) (inr q) (inr r) = let e = q.0 in let f = r.0 in omega arith
later_then a b c (inr p) (inl q) (inl r) = let e = p.0 in omega arith
later_then a b c (inr p) (inl q) (inr r) = let e = p.0 in let f = r.0 in omega arith
later_then a b c (inr p) (inr q) (inl r) = let e = p.0 in let f = q.0 in omega arith
later_then a b c (inr p) (inr q) (inr r) = let x = p.1 in let y = q.1 in let z = r.1 in omega arith

no_later_then : (a b c : Broken ℕ) → IsNoLater a b → IsNoLater b c → IsLater a c → ⊥
unfolding IsLater IsNoLater
no_later_then a b c (inl p) (inl q) (inl r) = omega arith
no_later_then a b c (inl p) (inl q) (inr r) = let e = r.0 in omega arith
no_later_then a b c (inl p) (inr q) (inl r) = let e = q.0 in omega arith
no_later_then a b c (inl p) (inr q) (inr r) = let e = q.0 in let f = r.0 in omega arith
no_later_then a b c (inr p) (inl q) (inl r) = let e = p.0 in omega arith
no_later_then a b c (inr p) (inl q) (inr r) = let e = p.0 in let f = r.0 in omega arith
no_later_then a b c (inr p) (inr q) (inl r) = let e = p.0 in let f = q.0 in omega arith
no_later_then a b c (inr p) (inr q) (inr r) = let x = p.1 in let y = q.1 in let z = r.1 in omega arith

-- ---- the earlier of three

three : (a b c : Broken ℕ) → earlier_of (earlier_of (Some a) (Some b)) (Some c) ≡ earlier_of (Some a) (earlier_of (Some b) (Some c))
unfolding earlier_of
three a b c = by_order (decided a b) (decided b c) (decided a c)
  where
    by_order : ((later offset a b ≡ true) × IsLater a b) ⊎ ((later offset a b ≡ false) × IsNoLater a b)
        → ((later offset b c ≡ true) × IsLater b c) ⊎ ((later offset b c ≡ false) × IsNoLater b c)
        → ((later offset a c ≡ true) × IsLater a c) ⊎ ((later offset a c ≡ false) × IsNoLater a c)
        → earlier_of (earlier_of (Some a) (Some b)) (Some c) ≡ earlier_of (Some a) (earlier_of (Some b) (Some c))
    by_order (inl p) (inl q) (inl r) = rw (p.0, q.0, r.0) refl
    by_order (inl p) (inl q) (inr r) = absurd (later_then a b c p.1 q.1 r.1)
    by_order (inl p) (inr q) r = rw (p.0, q.0) (rw p.0 refl)
    by_order (inr p) (inl q) r = rw (p.0, q.0) refl
    by_order (inr p) (inr q) (inl r) = absurd (no_later_then a b c p.1 q.1 r.1)
    by_order (inr p) (inr q) (inr r) = rw (p.0, q.0) (rw (p.0, r.0) refl)

first_none : (b : Option (Broken ℕ)) → earlier_of None b ≡ b
unfolding earlier_of
first_none None = refl
first_none (Some b) = refl

last_none : (a : Option (Broken ℕ)) → earlier_of a None ≡ a
unfolding earlier_of
last_none a = refl

earlier_of_three : (a b c : Option (Broken ℕ)) → earlier_of (earlier_of a b) c ≡ earlier_of a (earlier_of b c)
earlier_of_three None b c = ap (λ (x : Option (Broken ℕ)). earlier_of x c) (first_none b) ∙ sym (first_none (earlier_of b c))
earlier_of_three (Some a) None c = ap (λ (x : Option (Broken ℕ)). earlier_of x c) (last_none (Some a)) ∙ sym (ap (earlier_of (Some a)) (first_none c))
earlier_of_three (Some a) (Some b) None = last_none (earlier_of (Some a) (Some b)) ∙ sym (ap (earlier_of (Some a)) (last_none (Some b)))
earlier_of_three (Some a) (Some b) (Some c) = three a b c

-- ---- lists of faults

-- some and then others
pub first_after-append : (old : Option (Broken ℕ)) (faults more : List Fault) → first_after old (faults ++ more) ≡ first_after (first_after old faults) more
first_after-append old [] more = refl
first_after-append old (f ∷ faults) more = first_after-append (earlier_of old (Some (broken_of f))) faults more

-- the first of those before and those that another one has taken in
pub first_after-merged : (old : Option (Broken ℕ)) (faults : List Fault) → first_after old faults ≡ earlier_of old (first_after None faults)
first_after-merged old faults = ap (λ (x : Option (Broken ℕ)). first_after x faults) (sym (last_none old)) ∙ joined old None faults
  where
    joined : (a b : Option (Broken ℕ)) (fs : List Fault) → first_after (earlier_of a b) fs ≡ earlier_of a (first_after b fs)
    joined a b [] = refl
    joined a b (f ∷ fs) = ap (λ (x : Option (Broken ℕ)). first_after x fs) (earlier_of_three a b (Some (broken_of f))) ∙ joined a (earlier_of b (Some (broken_of f))) fs

pub taken_together : TakenTogether
taken_together old mid new faults more h g = g ∙ (ap (λ (x : Option (Broken ℕ)). first_after x more) h ∙ sym (first_after-append old.first.broken faults more))

pub taken_apart : TakenApart
taken_apart old new found faults h g = g ∙ (ap (earlier_of old.first.broken) h ∙ sym (first_after-merged old.first.broken faults))

-- ---- the least

rank_back : (rule : ElabRule) → rule_of (rank rule) ≡ rule
rank_back E1 = refl
rank_back E2 = refl
rank_back E3 = refl
rank_back E4 = refl
rank_back E5 = refl
rank_back E6 = refl
rank_back L1 = refl
rank_back L2 = refl
rank_back L3 = refl
rank_back L4 = refl
rank_back U1 = refl
rank_back U2 = refl
rank_back U3 = refl
rank_back U4 = refl

as_fault : Broken ℕ → Fault
as_fault b = fault b.place (rule_of b.rule)

fault_back : (f : Fault) → as_fault (broken_of f) ≡ f
unfolding as_fault
fault_back f = ap (fault f.place) (rank_back f.rule)

passes : (a b c : Fault) → ComesNoLater a b → ComesNoLater b c → ComesNoLater a c
passes a b c (inl h) (inl g) = inl (omega arith)
passes a b c (inl h) (inr g) = let e = g.0 in inl (omega arith)
passes a b c (inr h) (inl g) = let e = h.0 in inl (omega arith)
passes a b c (inr h) (inr g) = let x = h.1 in let y = g.1 in inr (h.0 ∙ g.0, omega arith)

first_or_second : (f g : Fault) → ((earlier_of (Some (broken_of f)) (Some (broken_of g)) ≡ Some (broken_of g)) × ComesNoLater g f) ⊎ ((earlier_of (Some (broken_of f)) (Some (broken_of g)) ≡ Some (broken_of f)) × ComesNoLater f g)
unfolding earlier_of IsLater IsNoLater
first_or_second f g = by_order (decided (broken_of f) (broken_of g))
  where
    swapped : IsLater (broken_of f) (broken_of g) → ComesNoLater g f
    swapped (inl h) = inl h
    swapped (inr h) = let x = h.1 in inr (sym h.0, omega arith)

    by_order : ((later offset (broken_of f) (broken_of g) ≡ true) × IsLater (broken_of f) (broken_of g)) ⊎ ((later offset (broken_of f) (broken_of g) ≡ false) × IsNoLater (broken_of f) (broken_of g))
        → ((earlier_of (Some (broken_of f)) (Some (broken_of g)) ≡ Some (broken_of g)) × ComesNoLater g f) ⊎ ((earlier_of (Some (broken_of f)) (Some (broken_of g)) ≡ Some (broken_of f)) × ComesNoLater f g)
    by_order (inl p) = inl (rw p.0 refl, swapped p.1)
    by_order (inr p) = inr (rw p.0 refl, p.1)

least_of : (f : Fault) (faults : List Fault) (b : Broken ℕ) → first_after (Some (broken_of f)) faults ≡ Some b → IsLeast (f ∷ faults) (as_fault b)
least_of f [] b e = subst (IsLeast (f ∷ [])) (sym (fault_back f) ∙ ap as_fault same) (record { among = inl refl; least = (inr (refl, omega arith), tt) })
  where
    same : broken_of f ≡ b
    same = cc
least_of f (g ∷ faults) b e = by_order (λ h. least_of g faults b h) (λ h. least_of f faults b h) (first_or_second f g)
  where
    by_order : (first_after (Some (broken_of g)) faults ≡ Some b → IsLeast (g ∷ faults) (as_fault b)) → (first_after (Some (broken_of f)) faults ≡ Some b → IsLeast (f ∷ faults) (as_fault b))
        → ((earlier_of (Some (broken_of f)) (Some (broken_of g)) ≡ Some (broken_of g)) × ComesNoLater g f) ⊎ ((earlier_of (Some (broken_of f)) (Some (broken_of g)) ≡ Some (broken_of f)) × ComesNoLater f g)
        → IsLeast (f ∷ g ∷ faults) (as_fault b)
    by_order from_g from_f (inl p) =
        let l = from_g (ap (λ (x : Option (Broken ℕ)). first_after x faults) (sym p.0) ∙ e) in
        record { among = inr l.among; least = (passes (as_fault b) g f l.least.0 p.1, l.least) }
    by_order from_g from_f (inr p) =
        let l = from_f (ap (λ (x : Option (Broken ℕ)). first_after x faults) (sym p.0) ∙ e) in
        record { among = second l.among; least = (l.least.0, (passes (as_fault b) f g l.least.0 p.1, l.least.1)) }
      where
        second : IsIn (as_fault b) (f ∷ faults) → IsIn (as_fault b) (f ∷ g ∷ faults)
        second (inl h) = inl h
        second (inr h) = inr (inr h)

-- one stays
some_stays : (f : Fault) (faults : List Fault) → first_after (Some (broken_of f)) faults ≡ None → ⊥
some_stays f [] e = absurd cc
some_stays f (g ∷ faults) e = by_order (λ h. some_stays g faults h) (λ h. some_stays f faults h) (first_or_second f g)
  where
    by_order : (first_after (Some (broken_of g)) faults ≡ None → ⊥) → (first_after (Some (broken_of f)) faults ≡ None → ⊥)
        → ((earlier_of (Some (broken_of f)) (Some (broken_of g)) ≡ Some (broken_of g)) × ComesNoLater g f) ⊎ ((earlier_of (Some (broken_of f)) (Some (broken_of g)) ≡ Some (broken_of f)) × ComesNoLater f g) → ⊥
    by_order from_g from_f (inl p) = from_g (ap (λ (x : Option (Broken ℕ)). first_after x faults) (sym p.0) ∙ e)
    by_order from_g from_f (inr p) = from_f (ap (λ (x : Option (Broken ℕ)). first_after x faults) (sym p.0) ∙ e)

first_of_more : (f : Fault) (faults : List Fault) → first_after None (f ∷ faults) ≡ first_after (Some (broken_of f)) faults
first_of_more f faults = ap (λ (x : Option (Broken ℕ)). first_after x faults) (first_none (Some (broken_of f)))

pub none_of_all : NoneOfAll
none_of_all found [] h = (λ _. refl, λ _. h)
none_of_all found (f ∷ faults) h = (λ e. absurd (some_stays f faults (sym (first_of_more f faults) ∙ (sym h ∙ e))), λ e. absurd cc)

pub least_of_all : LeastOfAll
unfolding as_fault
least_of_all found [] b h e = absurd cc
least_of_all found (f ∷ faults) b h e = least_of f faults b (sym (first_of_more f faults) ∙ (sym h ∙ e))
