-- Visits that are fewer than the levels are all there are.
use Rattle.std.proofs.Common.{ℕ, zero, suc, ◌+◌, ◌≡◌, ◌<◌, ◌≤◌, ◌⊎◌, inl, inr, Bool, true, false, List, [], ◌∷◌, refl, arith}
use Rattle.std.proofs.lemmas.Bool.Decides.{nat_tests}
use Rattle.std.specs.Prelude.{nat_lt}
use Rattle.ecd_syntax.specs.declared.tree.Rule.{Rule}
use Rattle.ecd_expansion.specs.Laws.{StepsGrow, StepsShowSoon}
use Rattle.ecd_expansion.specs.Visits.{Visit, inside, total, visits}

pub less_or_not : (a b : ℕ) → (a < b) ⊎ (b ≤ a)
less_or_not a b = by_test (nat_lt a b) refl
  where
    by_test : (t : Bool) → nat_lt a b ≡ t → (a < b) ⊎ (b ≤ a)
    by_test true e = inl (grind (arith, nat_tests))
    by_test false e = inr (grind (arith, nat_tests))

-- where it is so of each visit, it is so of their sum
all_stay : (n m : ℕ) (text : List Rule) → ((v : Visit) → visits n text v < n → visits m text v ≤ visits n text v) → (vs : List Visit) → total (visits n text) vs < n → total (visits m text) vs ≤ total (visits n text) vs
all_stay n m text each [] h = omega arith
all_stay n m text each (v ∷ vs) h =
    let first : visits m text v ≤ visits n text v = each v (omega arith) in
    let rest : total (visits m text) vs ≤ total (visits n text) vs = all_stay n m text each vs (omega arith) in
    omega arith

pub visits_stay : (n m : ℕ) (text : List Rule) (v : Visit) → visits n text v < n → visits m text v ≤ visits n text v
unfolding visits
visits_stay zero m text v h = absurd (omega arith)
visits_stay (suc n) zero text v h = omega arith
visits_stay (suc n) (suc m) text v h =
    let rest : total (visits m text) (inside text v) ≤ total (visits n text) (inside text v) = all_stay n m text (visits_stay n m text) (inside text v) (omega arith) in
    omega arith

pub steps_show_soon : StepsShowSoon
steps_show_soon text roots levels h = by_size (less_or_not 4096 (total (visits 4097 text) roots))
  where
    by_size : (4096 < total (visits 4097 text) roots) ⊎ (total (visits 4097 text) roots ≤ 4096) → 4096 < total (visits 4097 text) roots
    by_size (inl more) = more
    by_size (inr less) =
        let stay : total (visits levels text) roots ≤ total (visits 4097 text) roots = all_stay 4097 levels text (visits_stay 4097 levels text) roots (omega arith) in
        absurd (omega arith)

all_grow : (n : ℕ) (text : List Rule) → ((v : Visit) → visits n text v ≤ visits (suc n) text v) → (vs : List Visit) → total (visits n text) vs ≤ total (visits (suc n) text) vs
all_grow n text each [] = omega arith
all_grow n text each (v ∷ vs) =
    let first : visits n text v ≤ visits (suc n) text v = each v in
    let rest : total (visits n text) vs ≤ total (visits (suc n) text) vs = all_grow n text each vs in
    omega arith

visits_grow : (n : ℕ) (text : List Rule) (v : Visit) → visits n text v ≤ visits (suc n) text v
unfolding visits
visits_grow zero text v = omega arith
visits_grow (suc n) text v =
    let rest : total (visits n text) (inside text v) ≤ total (visits (suc n) text) (inside text v) = all_grow n text (visits_grow n text) (inside text v) in
    omega arith

pub steps_grow : StepsGrow
steps_grow text roots levels = all_grow levels text (visits_grow levels text) roots
