-- The pairs of a map given out to its entries, by numbers: the owner of a pair is the entry in whose list it stands.
use Rattle.std.specs.Prelude.{◌≡◌, ◌↔◌, ℕ, ◌+◌, ◌<◌, ◌≤◌, ◌⊎◌, ◌==◌, if◌then◌else◌, List, [], ◌∷◌, length, map}
use Rattle.ecd_keyorder.specs.declared.Order.{Order}
use Rattle.ecd_item_laws.specs.declared.item.Pair.{Pair}
use Rattle.ecd_item_laws.specs.Encoding.{key_bytes}
use Rattle.ecd_item_laws.specs.Valid.{Ascend, IsValid}
use Rattle.ecd_core.specs.declared.shape.MapEntry.{MapEntry}
use Rattle.ecd_core.specs.declared.shape.MapEntry.TheVariants as m
use Rattle.ecd_core.specs.declared.shape.Field.{Field}
use Rattle.ecd_core.specs.declared.shape.Pick.{Pick, out-Pick}
use Rattle.ecd_core.specs.declared.shape.Table.{Table}
use Rattle.ecd_core.specs.declared.value.Value.{Value}
use Rattle.ecd_core.specs.declared.value.Value.TheVariants as v
use Rattle.ecd_core.specs.Lists.{Each, HasSome, EachWith}
use Rattle.ecd_core.specs.Maps.{ItemValues, EntryMeaning, AField, APick, ATable, Takes, Blocks, FieldHas, PickHas, RowHas, MapHas}
use Rattle.ecd_core.specs.Listed.{entries_mean, field_of, ways_mean}
use Rattle.ecd_core.specs.Values.{HasValue, meaning}

-- The pairs whose owner has this number.
abbrev pub owned : ℕ → List Pair → List ℕ → List Pair
owned number [] owners = []
owned number (pair ∷ pairs) [] = []
owned number (pair ∷ pairs) (owner ∷ owners) = if owner == number then pair ∷ owned number pairs owners else owned number pairs owners

-- A pair that a field takes has the number behind the last entry's; another one is not blocked and has the number of an entry.
abbrev pub OwnerFits : List EntryMeaning → List Pair → Pair → ℕ → Type 0
OwnerFits entries pairs pair owner =
    (HasSome (Takes pairs pair) entries × (owner ≡ length entries))
    ⊎ ((HasSome (Takes pairs pair) entries → ⊥) × (HasSome (Blocks pairs pair) entries → ⊥) × (owner < length entries))

-- A table with this list has the value.
abbrev pub TableFits : ℕ → ℕ → ItemValues → ItemValues → List Pair → Value → Type 0
TableFits lo hi keys under listed value = (rows : List Value) × (lo ≤ length listed) × (length listed ≤ hi) × EachWith (RowHas keys under) listed rows × (value ≡ v.Many rows)

-- An entry with this list has the value.
abbrev pub EntryFits : List Pair → EntryMeaning → List Pair → Value → Type 0
EntryFits pairs (AField field) listed value = (listed ≡ []) × FieldHas pairs field value
EntryFits pairs (APick needed ways) listed value = (listed ≡ []) × PickHas pairs needed ways value
EntryFits pairs (ATable lo hi keys under) listed value = TableFits lo hi keys under listed value

-- The entries, numbered from here on, have the values with the pairs that they own.
abbrev pub EntriesFit : List Pair → List ℕ → ℕ → List EntryMeaning → List Value → Type 0
EntriesFit pairs owners number [] [] = Unit {0}
EntriesFit pairs owners number [] (value ∷ values) = ⊥
EntriesFit pairs owners number (entry ∷ entries) [] = ⊥
EntriesFit pairs owners number (entry ∷ entries) (value ∷ values) = EntryFits pairs entry (owned number pairs owners) value × EntriesFit pairs owners (number + 1) entries values

-- The pairs of a map have owners that fit, and the entries have the values with what they own.
abbrev pub HasOwners : List EntryMeaning → List Pair → List Value → Type 0
HasOwners entries pairs values = (owners : List ℕ) × EachWith (OwnerFits entries pairs) pairs owners × EntriesFit pairs owners 0 entries values

-- A map whose pairs have owners has the values.
abbrev pub GivenOut : Type 0
GivenOut = (order : Order) (entries : List MapEntry) (pairs : List Pair) (values : List Value) → Each (λ pair. IsValid order pair.key) pairs → Ascend order (map key_bytes pairs)
    → HasOwners (entries_mean order entries) pairs values → MapHas order (entries_mean order entries) pairs values

-- The pairs of a map that has values have owners.
abbrev pub OwnersExist : Type 0
OwnersExist = (order : Order) (entries : List MapEntry) (pairs : List Pair) (values : List Value) → MapHas order (entries_mean order entries) pairs values → HasOwners (entries_mean order entries) pairs values

-- What it is that an entry has a value with the pairs that it owns.
abbrev pub FieldOwns : Type 0
FieldOwns = (order : Order) (pairs : List Pair) (f : Field) (listed : List Pair) (value : Value) → EntryFits pairs (meaning order (m.Field f)) listed value ↔ ((listed ≡ []) × FieldHas pairs (field_of order f) value)

abbrev pub PickOwns : Type 0
PickOwns = (order : Order) (pairs : List Pair) (pick : Pick) (listed : List Pair) (value : Value) →
    EntryFits pairs (meaning order (m.Pick pick)) listed value ↔ ((listed ≡ []) × PickHas pairs (out-Pick pick).needed (ways_mean order (out-Pick pick).ways) value)

abbrev pub TableOwns : Type 0
TableOwns = (order : Order) (pairs : List Pair) (t : Table) (listed : List Pair) (value : Value) →
    EntryFits pairs (meaning order (m.Table t)) listed value ↔ TableFits t.lo t.hi (HasValue order t.key) (HasValue order t.value) listed value
