-- What a piece of syntax means is what it gives, in order, and the faults met on the way.
use Rattle.std.specs.Prelude.{ℕ, ◌≡◌, ◌<◌, ◌≤◌, ◌⊎◌, List, [], ◌∷◌, ◌++◌, map}
use Rattle.ecd_expansion.specs.declared.rule.ElabRule.{ElabRule}

pub record Fault : Type 0 where
  pub place : ℕ
  pub rule : ElabRule

pub record Told (A : Type 0) : Type 0 where
  pub value : A
  pub faults : List Fault

abbrev pub fault : ℕ → ElabRule → Fault
fault place rule = record { place = place; rule = rule }

-- without a fault
abbrev pub told : {A : Type 0} → A → Told A
told value = record { value = value; faults = [] }

-- nothing but a fault
abbrev pub refused : {A : Type 0} → ℕ → ElabRule → Told (List A)
refused place rule = record { value = []; faults = fault place rule ∷ [] }

-- a change of what is given
abbrev pub changed : {A B : Type 0} → (A → B) → Told A → Told B
changed f one = record { value = f one.value; faults = one.faults }

-- with faults before those met
abbrev pub faulted : {A : Type 0} → List Fault → Told A → Told A
faulted faults one = record { value = one.value; faults = faults ++ one.faults }

-- the one and then the other
abbrev pub both : {A B C : Type 0} → (A → B → C) → Told A → Told B → Told C
both f one other = record { value = f one.value other.value; faults = one.faults ++ other.faults }

-- what each gives, one after another
abbrev pub told_each : {X A : Type 0} → (X → Told A) → List X → Told (List A)
told_each f [] = told []
told_each f (x ∷ xs) = both (λ one others. one ∷ others) (f x) (told_each f xs)

-- what they give in lists, as one list
abbrev pub told_all : {X A : Type 0} → (X → Told (List A)) → List X → Told (List A)
told_all f [] = told []
told_all f (x ∷ xs) = both (λ one others. one ++ others) (f x) (told_all f xs)
