-- Which pairs of a map fields take (RFC 8610, section 3.5.1), by the values of its entries.
use Rattle.std.specs.Prelude.{◌≡◌, ◌↔◌, ◌⊎◌, ℕ, true, List, [], ◌∷◌, Some}
use Rattle.ecd_keyorder.specs.declared.Order.{Order}
use Rattle.ecd_item_laws.specs.declared.item.Item.{Item}
use Rattle.ecd_item_laws.specs.declared.item.Pair.{Pair}
use Rattle.ecd_core.specs.declared.shape.MapEntry.{MapEntry}
use Rattle.ecd_core.specs.declared.value.Value.{Value}
use Rattle.ecd_core.specs.declared.value.Value.TheVariants as v
use Rattle.ecd_core.specs.Lists.{HasSome, IsIn}
use Rattle.ecd_core.specs.Listed.{entries_mean}
use Rattle.ecd_core.specs.Maps.{FieldMeaning, EntryMeaning, AField, APick, ATable, way_of, Takes, MapHas}

-- It is so of the elements of the two lists at some place.
abbrev pub SomeWith {ℓ} : {A : Type ℓ} {B : Type 0} → (A → B → Type 0) → List A → List B → Type 0
SomeWith R [] ys = ⊥
SomeWith R (x ∷ xs) [] = ⊥
SomeWith R (x ∷ xs) (y ∷ ys) = R x y ⊎ SomeWith R xs ys

-- A field with this value is there: each needed one, and another one where its value says so.
abbrev pub IsThere : FieldMeaning → Value → Type 0
IsThere field value = (field.needed ≡ true) ⊎ ((one : Value) × (value ≡ v.Present one))

-- The field has this key, and is there.
abbrev pub HasKey : Item → FieldMeaning → Value → Type 0
HasKey key field value = (field.key ≡ Some key) × IsThere field value

-- An entry with this value takes the key: a plain field that is there has it, or a field that is there in the taken way, whose number the value of the pick tells.
abbrev pub TakesKey : Item → EntryMeaning → Value → Type 0
TakesKey key (AField field) value = HasKey key field value
TakesKey key (APick needed ways) value = (number : ℕ) × (values : List Value) × (value ≡ v.Way number (v.Group values)) × SomeWith (HasKey key) (way_of ways number) values
TakesKey key (ATable lo hi keys under) value = ⊥

-- The key is one of the taken keys of a map with these values.
abbrev pub IsTakenKey : List EntryMeaning → List Value → Item → Type 0
IsTakenKey entries values key = SomeWith (TakesKey key) entries values

-- A field takes a pair of a map exactly where its key is a taken one.
abbrev pub TakenByKey : Type 0
TakenByKey = (order : Order) (entries : List MapEntry) (pairs : List Pair) (values : List Value) (pair : Pair) → MapHas order (entries_mean order entries) pairs values → IsIn pair pairs
    → HasSome (Takes pairs pair) (entries_mean order entries) ↔ IsTakenKey (entries_mean order entries) values pair.key

-- Each taken key is the key of a pair.
abbrev pub TakenIsThere : Type 0
TakenIsThere = (order : Order) (entries : List MapEntry) (pairs : List Pair) (values : List Value) (key : Item) → MapHas order (entries_mean order entries) pairs values
    → IsTakenKey (entries_mean order entries) values key → (pair : Pair) × IsIn pair pairs × (pair.key ≡ key)
