-- What has been taken in: the first of the faults of an expansion.
use Rattle.std.specs.Prelude.{ℕ, ◌≡◌, ◌↔◌, ◌==◌, if◌then◌else◌, List, [], ◌∷◌, ◌++◌, Option, Some, None}
use Rattle.ecd_first.specs.declared.first.Broken.{Broken}
use Rattle.ecd_first.specs.Firsts.{earlier, offset}
use Rattle.ecd_expansion.specs.declared.rule.ElabRule.{ElabRule}
use Rattle.ecd_expansion.specs.declared.rule.ElabRule.TheVariants.{E1, E2, E3, E4, E5, E6, L1, L2, L3, L4, U1, U2, U3, U4}
use Rattle.ecd_expansion.specs.Expansion.{rank, IsLeast}
use Rattle.ecd_expansion.specs.Told.{Fault, fault}
use Rattle.ecd_faults.specs.declared.found.Found.{Found}

-- the rule of a rank
abbrev pub rule_of : ℕ → ElabRule
rule_of n =
    if n == 1 then U1 else if n == 2 then U2 else if n == 3 then U3 else if n == 4 then U4 else if n == 5 then E1 else
    if n == 6 then E2 else if n == 7 then E3 else if n == 8 then E4 else if n == 9 then E5 else if n == 10 then E6 else
    if n == 11 then L1 else if n == 12 then L2 else if n == 13 then L3 else L4

-- a fault as it is kept, by its rank, and back
abbrev pub broken_of : Fault → Broken ℕ
broken_of f = record { place = f.place; rule = rank f.rule }

abbrev pub fault_of : Broken ℕ → ℕ × ElabRule
fault_of b = (b.place, rule_of b.rule)

-- the earlier of two, where they are there
unfoldable pub earlier_of : Option (Broken ℕ) → Option (Broken ℕ) → Option (Broken ℕ)
earlier_of old None = old
earlier_of old (Some b) = earlier offset old (Some b)

-- the first of the one before and these
abbrev pub first_after : Option (Broken ℕ) → List Fault → Option (Broken ℕ)
first_after old [] = old
first_after old (f ∷ faults) = first_after (earlier_of old (Some (broken_of f))) faults

-- these faults have been taken in, and no others
abbrev pub Takes : Found → Found → List Fault → Type 0
Takes old new faults = new.first.broken ≡ first_after old.first.broken faults

-- these, from the beginning on
abbrev pub HasTaken : Found → List Fault → Type 0
HasTaken found faults = found.first.broken ≡ first_after None faults

-- ---- laws

abbrev pub NoneOfAll : Type 0
NoneOfAll = (found : Found) (faults : List Fault) → HasTaken found faults → (found.first.broken ≡ None) ↔ (faults ≡ [])

abbrev pub LeastOfAll : Type 0
LeastOfAll = (found : Found) (faults : List Fault) (b : Broken ℕ) → HasTaken found faults → found.first.broken ≡ Some b → IsLeast faults (fault b.place (rule_of b.rule))

abbrev pub TakenTogether : Type 0
TakenTogether = (old mid new : Found) (faults more : List Fault) → Takes old mid faults → Takes mid new more → Takes old new (faults ++ more)

abbrev pub TakenApart : Type 0
TakenApart = (old new found : Found) (faults : List Fault) → HasTaken found faults → new.first.broken ≡ earlier_of old.first.broken found.first.broken → Takes old new faults
