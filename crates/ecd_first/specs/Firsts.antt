-- The first of the faults that are met, in any order. Places are compared by their ranks.
use Rattle.std.specs.Prelude.{ℕ, ◌≡◌, ◌<◌, ◌≤◌, ◌⊎◌, nat_lt, if◌then◌else◌, Bool, true, false, List, Option, Some, None}
use Rattle.std.specs.List.{Contains}
use Rattle.ecd_first.specs.declared.first.Broken.{Broken}

-- where a place stands among all places: by the major number, then by the minor
pub record Rank : Type 0 where
  pub major : ℕ
  pub minor : ℕ

-- whether the one rank is less than the other
abbrev pub is_less : Rank → Rank → Bool
is_less a b = if nat_lt a.major b.major then true else if nat_lt b.major a.major then false else nat_lt a.minor b.minor

abbrev pub IsLess : Rank → Rank → Type 0
IsLess a b = (a.major < b.major) ⊎ ((a.major ≡ b.major) × (a.minor < b.minor))

-- the rank of a byte's offset
abbrev pub offset : ℕ → Rank
offset n = record { major = n; minor = 0 }

-- ---- the earlier of two

-- whether the one comes later than the other: by place, then by rule
abbrev pub later : {P : Type 0} → (P → Rank) → Broken P → Broken P → Bool
later rank a b = if is_less (rank b.place) (rank a.place) then true else if is_less (rank a.place) (rank b.place) then false else nat_lt b.rule a.rule

-- the earlier of two; the old one where neither is earlier
abbrev pub earlier : {P : Type 0} → (P → Rank) → Option (Broken P) → Option (Broken P) → Option (Broken P)
earlier rank None new = new
earlier rank (Some a) None = Some a
earlier rank (Some a) (Some b) = if later rank a b then Some b else Some a

-- a broken rule, where the test holds
abbrev pub noted : {P : Type 0} → Bool → P → ℕ → Option (Broken P)
noted true place rule = Some (record { place = place; rule = rule })
noted false place rule = None

-- ---- the first of all faults of a kind

-- faults: which rule is broken at which place
abbrev pub Faults : Type 0 → Type 1
Faults P = (place : P) (rule : ℕ) → Type 0

-- the one place and rule comes no later than the other: by the places, and at one place by the rules
abbrev pub ComesNoLater : {P : Type 0} → (P → Rank) → (place : P) (rule : ℕ) (other_place : P) (other : ℕ) → Type 0
ComesNoLater rank place rule other_place other = IsLess (rank place) (rank other_place) ⊎ ((rank place ≡ rank other_place) × (rule ≤ other))

-- the first so far comes no later than this one
abbrev pub IsNoLater : {P : Type 0} → (P → Rank) → Option (Broken P) → Faults P
IsNoLater rank None place rule = ⊥
IsNoLater rank (Some b) place rule = ComesNoLater rank b.place b.rule place rule

-- these faults have been taken in
pub record Sees {P : Type 0} (rank : P → Rank) (old new : Option (Broken P)) (faults : Faults P) : Type 0 where
  pub met : (b : Broken P) → new ≡ Some b → (old ≡ Some b) ⊎ faults b.place b.rule
  pub kept : (b : Broken P) → old ≡ Some b → IsNoLater rank new b.place b.rule
  pub taken : (place : P) (rule : ℕ) → faults place rule → IsNoLater rank new place rule

-- one fault, where the test holds
pub record When {P : Type 0} (holds : Bool) (at : P) (number : ℕ) (place : P) (rule : ℕ) : Type 0 where
  pub so : holds ≡ true
  pub place_is : place ≡ at
  pub rule_is : rule ≡ number

-- the faults of each of a list
pub record EachOf {P A : Type 0} (faults : A → Faults P) (xs : List A) (place : P) (rule : ℕ) : Type 0 where
  pub one : A
  pub among : Contains xs one
  pub broken : faults one place rule

-- the faults of each number below this one
pub record AnyBelow {P : Type 0} (faults : ℕ → Faults P) (end : ℕ) (place : P) (rule : ℕ) : Type 0 where
  pub index : ℕ
  pub below : index < end
  pub broken : faults index place rule
