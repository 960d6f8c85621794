-- The tables of a map, and what holds of the pairs in them.
use Rattle.std.specs.Prelude.{◌≡◌, ℕ, List}
use Rattle.ecd_keyorder.specs.declared.Order.{Order}
use Rattle.ecd_item_laws.specs.declared.item.Item.{Item}
use Rattle.ecd_item_laws.specs.declared.item.Pair.{Pair}
use Rattle.ecd_core.specs.declared.shape.Kind.TheVariants as k
use Rattle.ecd_core.specs.declared.shape.Shape.{Shape}
use Rattle.ecd_core.specs.declared.shape.MapEntry.{MapEntry, Field', Table'}
use Rattle.ecd_core.specs.declared.shape.MapEntry.TheVariants as m
use Rattle.ecd_core.specs.declared.value.Value.{Value}
use Rattle.ecd_core.specs.Lists.{HasSome, IsIn}
use Rattle.ecd_core.specs.Listed.{IsAt, entries_mean}
use Rattle.ecd_core.specs.Maps.{Takes, list_of, MapHas}
use Rattle.ecd_core.specs.Values.{Gives}
use Rattle.ecd_shape_rules.specs.Demands.{KeepsRules}

-- The entry is a table whose keys' shape gives this key a value.
abbrev pub IsTableOf : Order → Item → MapEntry → Type 0
IsTableOf order key (Field' at _ own cut lo _ kind) = ⊥
IsTableOf order key (m.Pick pick) = ⊥
IsTableOf order key (Table' at lo hi _ own _ kind) = (value : Value) × Gives order own key value

-- The shape is a map of these entries that keeps the rules.
abbrev pub IsKeptMap : Shape → List MapEntry → Type 0
IsKeptMap shape entries = (shape.kind ≡ k.Map entries) × KeepsRules shape

-- A key has a table at one place at most.
abbrev pub OneTableOfKey : Type 0
OneTableOfKey =
    (order : Order) (shape : Shape) (entries : List MapEntry) (key : Item) (one other : ℕ) → IsKeptMap shape entries → IsAt (IsTableOf order key) entries one → IsAt (IsTableOf order key) entries other → one ≡ other

-- A pair stands in the list of a table of its key.
abbrev pub StandsByKey : Type 0
StandsByKey =
    (order : Order) (entries : List MapEntry) (pairs : List Pair) (values : List Value) (reading : MapHas order (entries_mean order entries) pairs values) (number : ℕ) (pair : Pair)
    → IsIn pair (list_of reading.each number) → IsAt (IsTableOf order pair.key) entries number

-- A pair that no field takes stands in the list of the table of its key.
abbrev pub StandsInTableOfKey : Type 0
StandsInTableOfKey =
    (order : Order) (shape : Shape) (entries : List MapEntry) (pairs : List Pair) (values : List Value) (reading : MapHas order (entries_mean order entries) pairs values) (number : ℕ) (pair : Pair)
    → IsKeptMap shape entries → IsIn pair pairs → (HasSome (Takes pairs pair) (entries_mean order entries) → ⊥) → IsAt (IsTableOf order pair.key) entries number → IsIn pair (list_of reading.each number)

-- Two readings of a map have the same lists.
abbrev pub SameLists : Type 0
SameLists =
    (order : Order) (shape : Shape) (entries : List MapEntry) (pairs : List Pair) (values others : List Value) (one : MapHas order (entries_mean order entries) pairs values)
    (other : MapHas order (entries_mean order entries) pairs others) (number : ℕ) → IsKeptMap shape entries → list_of one.each number ≡ list_of other.each number
