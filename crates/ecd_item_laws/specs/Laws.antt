-- What holds of items, their encodings and first faults.
use Rattle.std.specs.Prelude.{◌≡◌, ℕ, ◌<◌, ◌≤◌, ◌⊎◌, List, [], ◌++◌, All}
use Rattle.ecd_keyorder.specs.declared.Order.{Order}
use Rattle.ecd_item_laws.specs.declared.fault.Cause.{Cause}
use Rattle.ecd_item_laws.specs.declared.item.Item.{Item}
use Rattle.ecd_item_laws.specs.Encoding.{encoding, encoded_length}
use Rattle.ecd_item_laws.specs.Valid.{IsValid, IsWhole, IsEncoding, depth}
use Rattle.ecd_item_laws.specs.FirstFault.{IsFirstFault}

-- An item has at most one encoding.
abbrev pub HasOneEncoding : Type 0
HasOneEncoding = (order : Order) (item : Item) (bytes others : List ℕ) → IsEncoding order item bytes → IsEncoding order item others → bytes ≡ others

-- No bytes encode two items.
abbrev pub EncodesOneItem : Type 0
EncodesOneItem = (order : Order) (item other : Item) (bytes : List ℕ) → IsEncoding order item bytes → IsEncoding order other bytes → item ≡ other

-- No encoding is a proper prefix of another.
abbrev pub HasNoProperPrefix : Type 0
HasNoProperPrefix = (order : Order) (item other : Item) (bytes more : List ℕ) → IsEncoding order item bytes → IsEncoding order other (bytes ++ more) → more ≡ []

-- Bytes that begin with the encodings of two items begin with one: the items are the same, and so is what follows.
abbrev pub BeginsWithOneItem : Type 0
BeginsWithOneItem = (order : Order) (item other : Item) (rest others : List ℕ) → IsValid order item → IsValid order other → encoding item ++ rest ≡ encoding other ++ others → (item ≡ other) × (rest ≡ others)

-- There is at most one first fault.
abbrev pub HasOneFirstFault : Type 0
HasOneFirstFault =
    (order : Order) (deepest at : ℕ) (bytes : List ℕ) (place other : ℕ) (cause another : Cause) → IsFirstFault order deepest at bytes place cause → IsFirstFault order deepest at bytes other another → (place ≡ other) × (cause ≡ another)

-- Bytes that begin with the encoding of an item of at most the depth have no first fault.
abbrev pub EncodingHasNoFault : Type 0
EncodingHasNoFault =
    (order : Order) (deepest at : ℕ) (item : Item) (rest : List ℕ) (place : ℕ) (cause : Cause) → IsWhole order deepest item → IsFirstFault order deepest at (encoding item ++ rest) place cause → ⊥

-- All other bytes have one.
abbrev pub IsItemOrFault : Order → ℕ → ℕ → List ℕ → Type 0
IsItemOrFault order deepest at bytes =
    ((item : Item) × (rest : List ℕ) × IsWhole order deepest item × (bytes ≡ encoding item ++ rest)) ⊎ ((place : ℕ) × (cause : Cause) × IsFirstFault order deepest at bytes place cause)

abbrev pub EveryBytesHaveOne : Type 0
EveryBytesHaveOne = (order : Order) (deepest at : ℕ) (bytes : List ℕ) → All (λ byte. byte < 256) bytes → IsItemOrFault order deepest at bytes

-- An item nests no deeper than its encoding is long.
abbrev pub IsNoDeeperThanLong : Type 0
IsNoDeeperThanLong = (item : Item) → depth item ≤ encoded_length item
