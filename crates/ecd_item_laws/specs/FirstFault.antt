-- Why no item is accepted at a place: the first head place with a cause.
use Rattle.std.specs.Prelude.{◌≡◌, ℕ, zero, suc, ◌+◌, ◌-◌, ◌<◌, ◌^◌, ◌⊎◌, List, [], ◌∷◌, ◌++◌, length, map, Option, Some, None}
use Rattle.std.specs.List.{AllByRecursion}
use Rattle.std.specs.Str.{IsUtf8}
use Rattle.ecd_head.specs.Head.{head_bytes}
use Rattle.ecd_head.specs.Fault.{head_fault}
use Rattle.ecd_head.specs.declared.HeadFault.TheVariants as h
use Rattle.ecd_keyorder.specs.declared.Order.{Order}
use Rattle.ecd_keyorder.specs.Order.{IsBefore}
use Rattle.ecd_item_laws.specs.declared.fault.Cause.{Cause}
use Rattle.ecd_item_laws.specs.declared.fault.Cause.TheVariants as c
use Rattle.ecd_item_laws.specs.declared.item.Item.{Item}
use Rattle.ecd_item_laws.specs.declared.item.Pair.{Pair}
use Rattle.ecd_item_laws.specs.Encoding.{encoding, key_bytes, pair_bytes, joined}
use Rattle.ecd_item_laws.specs.Valid.{Ascend, IsWhole, IsWholePair}

-- A step into an unfinished item: a head, and the whole parts behind it, after which the next part must begin.
pub data Step : Type 0 where
  InTag : (number : ℕ) → Step
  InArray : (count : ℕ) (before : List Item) → Step
  AtKey : (count : ℕ) (before : List Pair) → Step
  AtValue : (count : ℕ) (before : List Pair) (key : Item) → Step

-- The bytes of the head and of these parts.
abbrev pub step_bytes : Step → List ℕ
step_bytes (InTag number) = head_bytes 6 number
step_bytes (InArray count before) = head_bytes 4 count ++ joined (map encoding before)
step_bytes (AtKey count before) = head_bytes 5 count ++ joined (map pair_bytes before)
step_bytes (AtValue count before key) = head_bytes 5 count ++ (joined (map pair_bytes before) ++ encoding key)

-- The parts are fewer than the head counts, valid and no deeper than is allowed inside, and keys ascend: nothing in the step is at fault.
abbrev pub IsOpen : Order → ℕ → Step → Type 0
IsOpen order deepest (InTag number) = number < 2 ^ 64
IsOpen order deepest (InArray count before) = (count < 2 ^ 64) × (length before < count) × AllByRecursion (IsWhole order deepest) before
IsOpen order deepest (AtKey count before) =
    (count < 2 ^ 64) × (length before < count) × AllByRecursion (IsWholePair order deepest) before × Ascend order (map key_bytes before)
IsOpen order deepest (AtValue count before key) =
    (count < 2 ^ 64) × (length before < count) × AllByRecursion (IsWholePair order deepest) before × IsWhole order deepest key
    × Ascend order (map key_bytes before ++ encoding key ∷ [])

-- An unfinished item is its steps, from the outside in. Each allows one level less inside.
abbrev pub AreOpen : Order → ℕ → List Step → Type 0
AreOpen order deepest [] = Unit {0}
AreOpen order zero (step ∷ steps) = ⊥
AreOpen order (suc deepest) (step ∷ steps) = IsOpen order deepest step × AreOpen order deepest steps

-- The bytes of all steps.
abbrev pub steps_bytes : List Step → List ℕ
steps_bytes [] = []
steps_bytes (step ∷ steps) = step_bytes step ++ steps_bytes steps

-- The last of some keys, where there is one.
abbrev pub last_of : List (List ℕ) → Option (List ℕ)
last_of [] = None
last_of (one ∷ []) = Some one
last_of (one ∷ next ∷ others) = last_of (next ∷ others)

-- Where the next part is a key, but not its map's first: the encoding of the key before it.
abbrev pub key_before_in : Step → Option (List ℕ)
key_before_in (InTag number) = None
key_before_in (InArray count before) = None
key_before_in (AtKey count before) = last_of (map key_bytes before)
key_before_in (AtValue count before key) = None

-- The same for the innermost step.
abbrev pub key_before : List Step → Option (List ℕ)
key_before [] = None
key_before (step ∷ []) = key_before_in step
key_before (step ∷ next ∷ steps) = key_before (next ∷ steps)

-- A string's head, and fewer bytes than its length behind it (RFC 8949, section 3.1).
pub record IsCutString (bytes : List ℕ) : Type 0 where
  pub major : ℕ
  pub count : ℕ
  pub rest : List ℕ
  pub string : (major ≡ 2) ⊎ (major ≡ 3)
  pub fits : count < 2 ^ 64
  pub stands : bytes ≡ head_bytes major count ++ rest
  pub short : length rest < count

-- A whole text string whose bytes are not UTF-8 (section 3.1).
pub record IsBadText (bytes : List ℕ) : Type 0 where
  pub text : List ℕ
  pub rest : List ℕ
  pub fits : length text < 2 ^ 64
  pub stands : bytes ≡ head_bytes 3 (length text) ++ (text ++ rest)
  pub bad : IsUtf8 text → ⊥

-- The head of an array, map or tag where no level is left.
pub record IsTooDeep (room : ℕ) (bytes : List ℕ) : Type 0 where
  pub major : ℕ
  pub arg : ℕ
  pub rest : List ℕ
  pub nests : (major ≡ 4) ⊎ ((major ≡ 5) ⊎ (major ≡ 6))
  pub fits : arg < 2 ^ 64
  pub stands : bytes ≡ head_bytes major arg ++ rest
  pub full : room ≡ 0

-- A whole key that is not above the key before it (sections 4.2.1 and 5.6).
pub record IsOutOfOrder (order : Order) (room : ℕ) (before : Option (List ℕ)) (bytes : List ℕ) : Type 0 where
  pub last : List ℕ
  pub key : Item
  pub rest : List ℕ
  pub follows : before ≡ Some last
  pub whole : IsWhole order room key
  pub stands : bytes ≡ encoding key ++ rest
  pub below : IsBefore order last (encoding key) → ⊥

-- What stands against an item at the front of the bytes, where so many levels are left. Causes of the head are those of RFC 8949, section 3.
abbrev pub HasCause : Order → ℕ → Option (List ℕ) → List ℕ → Cause → Type 0
HasCause order room before bytes c.Short = head_fault bytes ≡ Some h.Short
HasCause order room before bytes c.Reserved = head_fault bytes ≡ Some h.Reserved
HasCause order room before bytes c.Indefinite = head_fault bytes ≡ Some h.Indefinite
HasCause order room before bytes c.NotShortest = head_fault bytes ≡ Some h.NotShortest
HasCause order room before bytes c.Float = head_fault bytes ≡ Some h.Float
HasCause order room before bytes c.BadSimple = head_fault bytes ≡ Some h.BadSimple
HasCause order room before bytes c.BadUtf8 = IsBadText bytes
HasCause order room before bytes c.KeyOrder = IsOutOfOrder order room before bytes
HasCause order room before bytes c.TooDeep = IsTooDeep room bytes
HasCause order room before bytes c.ShortString = IsCutString bytes

-- The bytes from a place on are an unfinished item of at most this depth without a fault, and behind it, at the place where its next part must begin,
-- stands the cause. Since nothing before has a fault, it is the first.
pub record IsFirstFault (order : Order) (deepest at : ℕ) (bytes : List ℕ) (place : ℕ) (cause : Cause) : Type 0 where
  pub steps : List Step
  pub rest : List ℕ
  pub unfinished : AreOpen order deepest steps
  pub stands : bytes ≡ steps_bytes steps ++ rest
  pub here : place ≡ at + length (steps_bytes steps)
  pub why : HasCause order (deepest - length steps) (key_before steps) rest cause

-- The number by which a fault names a cause.
abbrev pub number_of : Cause → ℕ
number_of c.Short = 1
number_of c.Reserved = 2
number_of c.Indefinite = 3
number_of c.NotShortest = 4
number_of c.Float = 5
number_of c.BadSimple = 6
number_of c.BadUtf8 = 7
number_of c.KeyOrder = 8
number_of c.TooDeep = 9
number_of c.ShortString = 10
