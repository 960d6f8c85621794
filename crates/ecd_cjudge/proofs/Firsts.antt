-- The first of all faults that were taken in is the first fault of the program.
use Rattle.std.proofs.Common.{◌≡◌, ℕ, ◌<◌, List, [], ◌∷◌, ◌⊎◌, inl, inr, refl, ap, sym, arith, Bool, true, false}
use Rattle.std.specs.Prelude.{Option, Some, None, Contains, map, nat_eq}
use Rattle.std.proofs.lemmas.Bool.Decides.{nat_tests}
use Rattle.std.proofs.lemmas.List.Elements.{Contains-append_left, Contains-append_cases}
use Rattle.ecd_first.specs.declared.first.Broken.{Broken}
use Rattle.ecd_first.specs.Firsts.{Sees, Rank, ComesNoLater}
use Rattle.ecd_first.proofs.Seeing.{first_is, none_is}
use Rattle.ecd_cast.specs.declared.tree.Program.{Program}
use Rattle.ecd_cast.specs.Kinds.{unless}
use Rattle.ecd_cast.specs.Validity.{Fault, IsBefore, IsFirstFault, is_in_order, faults_from, depth_fault, call_depth_of}
use Rattle.ecd_cast.proofs.SmallRules.{file_small, small_each}
use Rattle.ecd_cjudge.specs.declared.spot.Spot.{Spot}
use Rattle.ecd_cjudge.specs.Faults.{Among, spot_rank}
use Rattle.ecd_cjudge.proofs.Taking.{among_none, one_fault}

abbrev fault_as : Broken Spot → Fault
fault_as b = record { rule = b.rule; item = b.place.item; statement = b.place.statement }

empty : (fs : List Fault) → ((spot : Spot) (rule : ℕ) → Among fs spot rule → ⊥) → fs ≡ []
empty [] none = refl
empty (f ∷ fs) none = absurd (none (record { item = f.item; statement = f.statement }) f.rule (0, omega arith, refl))

-- what comes no later comes before, or is the same
in_order : (f g : Fault) → ComesNoLater spot_rank (record { item = f.item; statement = f.statement }) f.rule (record { item = g.item; statement = g.statement }) g.rule → (g ≡ f) ⊎ (is_in_order f g ≡ true)
in_order f g (inl (inl h)) = inr (grind (arith, nat_tests))
in_order f g (inl (inr h)) = inr (grind (arith, nat_tests))
in_order f g (inr h) = by_rule (nat_eq f.rule g.rule) refl
  where
    items : f.item ≡ g.item
    items = ap (λ (r : Rank). r.major) h.0

    statements : f.statement ≡ g.statement
    statements = ap (λ (r : Rank). r.minor) h.0

    by_rule : (b : Bool) → nat_eq f.rule g.rule ≡ b → (g ≡ f) ⊎ (is_in_order f g ≡ true)
    by_rule true e = let rules : g.rule ≡ f.rule = grind (arith, nat_tests) in inl (λ i. record { rule = rules i; item = sym items i; statement = sym statements i })
    by_rule false e = let less = h.1 in inr (grind (arith, nat_tests, items, statements, less))

depth_rule : (b : Bool) (g : Fault) → Contains (map (λ r. let f : Fault = record { rule = r; item = 0; statement = 0 } in f) (unless b 7)) g → g.rule ≡ 7
depth_rule true g c = absurd (among_none c)
depth_rule false g c = sym (ap (λ (f : Fault). f.rule) (one_fault _ g c))

module _ (p : Program) (broken : Option (Broken Spot)) (seen : Sees spot_rank None broken (Among (faults_from [] p.items 0))) where
  pub none_broken : broken ≡ None → faults_from [] p.items 0 ≡ []
  none_broken e = empty (faults_from [] p.items 0) (none_is spot_rank broken (Among (faults_from [] p.items 0)) seen e)

  pub first_broken : (b : Broken Spot) → broken ≡ Some b → IsFirstFault p (fault_as b)
  first_broken b e = record { broken = Contains-append_left faults (depth_fault p) (fault_as b) found.0; first = λ g c. by_place g (Contains-append_cases faults (depth_fault p) g c) }
    where
      faults : List Fault
      faults = faults_from [] p.items 0

      found : Among faults b.place b.rule × ((spot : Spot) (rule : ℕ) → Among faults spot rule → ComesNoLater spot_rank b.place b.rule spot rule)
      found = first_is spot_rank broken (Among faults) b seen e

      small : (f : Fault) → Contains faults f → f.rule < 7
      small f c = small_each faults f (file_small [] p.items 0) c

      by_order : (g : Fault) → Contains faults g → (g ≡ fault_as b) ⊎ (is_in_order (fault_as b) g ≡ true) → (g ≡ fault_as b) ⊎ IsBefore (fault_as b) g
      by_order g c (inl same) = inl same
      by_order g c (inr before) = inr (small (fault_as b) found.0, inr (small g c, before))

      by_place : (g : Fault) → Contains faults g ⊎ Contains (depth_fault p) g → (g ≡ fault_as b) ⊎ IsBefore (fault_as b) g
      by_place g (inl c) = by_order g c (in_order (fault_as b) g (found.1 (record { item = g.item; statement = g.statement }) g.rule c))
      by_place g (inr c) = inr (small (fault_as b) found.0, inl (depth_rule (nat_eq p.depth (call_depth_of p.items)) g c))
