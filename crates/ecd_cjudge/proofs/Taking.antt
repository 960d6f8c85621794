-- Faults that are taken in, piece by piece.
use Rattle.std.proofs.Common.{◌≡◌, ℕ, List, [], ◌∷◌, ◌++◌, ◌⊎◌, inl, inr, refl, ap, sym, subst, arith, Bool, true, false}
use Rattle.std.specs.Prelude.{not, Contains}
use Rattle.std.proofs.lemmas.List.Elements.{Contains-append_left, Contains-append_right, Contains-append_cases, Contains-push_cases}
use Rattle.ecd_first.specs.declared.first.First.{First}
use Rattle.ecd_first.specs.Firsts.{Sees, When}
use Rattle.ecd_first.proofs.Seeing.{Either, sees_nothing, sees_then, sees_same}
use Rattle.ecd_cast.specs.Kinds.{unless}
use Rattle.ecd_cast.specs.Meaning.{Place}
use Rattle.ecd_cast.specs.Validity.{Fault, at_place}
use Rattle.ecd_cjudge.specs.declared.spot.Spot.{Spot}
use Rattle.ecd_cjudge.specs.Faults.{Among, SeesAll, Finds, spot_rank, place_as}

-- ---- lists of faults

pub among_none : {x : Fault} → Contains [] x → ⊥
among_none c = omega (arith, c.1)

pub all_nothing : (a : First Spot) → SeesAll a a []
all_nothing a = record { seen = sees_same spot_rank a.broken a.broken (λ _ _. ⊥) (Among []) (λ spot rule h. absurd h) (λ spot rule c. among_none c) (sees_nothing spot_rank a.broken) }

pub all_then : {a b c : First Spot} {xs ys : List Fault} → SeesAll a b xs → SeesAll b c ys → SeesAll a c (xs ++ ys)
all_then {a} {b} {c} {xs} {ys} h k = record { seen = sees_same spot_rank a.broken c.broken (Either (Among xs) (Among ys)) (Among (xs ++ ys)) to from (sees_then spot_rank a.broken b.broken c.broken (Among xs) (Among ys) h.seen k.seen) }
  where
    to : (spot : Spot) (rule : ℕ) → Either (Among xs) (Among ys) spot rule → Among (xs ++ ys) spot rule
    to spot rule (inl c) = Contains-append_left xs ys _ c
    to spot rule (inr c) = Contains-append_right xs ys _ c

    from : (spot : Spot) (rule : ℕ) → Among (xs ++ ys) spot rule → Either (Among xs) (Among ys) spot rule
    from spot rule c = Contains-append_cases xs ys _ c

pub all_same : {a b : First Spot} {xs ys : List Fault} → xs ≡ ys → SeesAll a b xs → SeesAll a b ys
all_same {a} {b} e h = subst (λ (l : List Fault). SeesAll a b l) e h

-- ---- rules that are broken at one place

pub finds_nothing : (a : First Spot) (p : Place) → Finds a a p []
finds_nothing a p = record { sees = all_nothing a }

place-append : (p : Place) (xs ys : List ℕ) → at_place p (xs ++ ys) ≡ at_place p xs ++ at_place p ys
place-append p [] ys = refl
place-append p (x ∷ xs) ys = ap (λ (l : List Fault). record { rule = x; item = p.item; statement = p.statement } ∷ l) (place-append p xs ys)

pub finds_then : {a b c : First Spot} {p : Place} {xs ys : List ℕ} → Finds a b p xs → Finds b c p ys → Finds a c p (xs ++ ys)
finds_then {a} {b} {c} {p} {xs} {ys} h k = record { sees = all_same (sym (place-append p xs ys)) (all_then h.sees k.sees) }

pub finds_same : {a b : First Spot} {p : Place} {xs ys : List ℕ} → xs ≡ ys → Finds a b p xs → Finds a b p ys
finds_same {a} {b} {p} e h = subst (λ (l : List ℕ). Finds a b p l) e h

-- ---- the rule, where the test fails

pub one_fault : (x y : Fault) → Contains (x ∷ []) y → x ≡ y
one_fault x y c = by_place (Contains-push_cases [] x y c)
  where
    by_place : Contains [] y ⊎ (x ≡ y) → x ≡ y
    by_place (inl n) = absurd (among_none n)
    by_place (inr e) = e

pub finds_unless : (a b : First Spot) (holds : Bool) (spot : Spot) (rule : ℕ) → Sees spot_rank a.broken b.broken (When (not holds) spot rule) → Finds a b (place_as spot) (unless holds rule)
finds_unless a b true spot rule s = record { sees = record { seen = sees_same spot_rank a.broken b.broken (When false spot rule) (Among []) (λ at number w. let none : false ≡ true = w.so in absurd cc) (λ at number c. absurd (among_none c)) s } }
finds_unless a b false spot rule s = record { sees = record { seen = sees_same spot_rank a.broken b.broken (When true spot rule) (Among (here ∷ [])) to from s } }
  where
    here : Fault
    here = record { rule = rule; item = spot.item; statement = spot.statement }

    to : (at : Spot) (number : ℕ) → When true spot rule at number → Among (here ∷ []) at number
    to at number w = (0, omega arith, λ i. record { rule = sym w.rule_is i; item = (sym w.place_is i).item; statement = (sym w.place_is i).statement })

    from : (at : Spot) (number : ℕ) → Among (here ∷ []) at number → When true spot rule at number
    from at number c =
        let e = one_fault here _ c in
        record { so = refl; place_is = λ i. record { item = (sym e i).item; statement = (sym e i).statement }; rule_is = λ i. (sym e i).rule }
