-- What holds of values and shapes.
use Rattle.std.specs.Prelude.{◌≡◌, ◌↔◌, ◌⊎◌, ◌<◌, ◌^◌, ℕ, Some, List, [], ◌∷◌, length, map}
use Rattle.ecd_keyorder.specs.declared.Order.{Order}
use Rattle.ecd_item_laws.specs.declared.item.Item.{Item}
use Rattle.ecd_item_laws.specs.declared.item.Item.TheVariants as i
use Rattle.ecd_item_laws.specs.declared.item.Pair.{Pair}
use Rattle.ecd_item_laws.specs.Encoding.{encoding}
use Rattle.ecd_item_laws.specs.Valid.{IsValid}
use Rattle.ecd_core.specs.declared.shape.Shape.{Shape}
use Rattle.ecd_core.specs.declared.shape.Kind.TheVariants as k
use Rattle.ecd_core.specs.declared.shape.Group.{Group}
use Rattle.ecd_core.specs.declared.shape.Part.TheVariants as p
use Rattle.ecd_core.specs.declared.shape.Way.{Way}
use Rattle.ecd_core.specs.declared.shape.MapEntry.{MapEntry}
use Rattle.ecd_core.specs.declared.shape.MapEntry.TheVariants as m
use Rattle.ecd_core.specs.declared.shape.Field.{Field}
use Rattle.ecd_core.specs.declared.shape.Pick.{Pick, out-Pick}
use Rattle.ecd_core.specs.declared.shape.Table.{Table}
use Rattle.ecd_core.specs.declared.value.Value.{Value}
use Rattle.ecd_core.specs.declared.value.Value.TheVariants as v
use Rattle.ecd_core.specs.Lists.{Each}
use Rattle.ecd_core.specs.Maps.{EntryMeaning, AField, APick, ATable, Takes, Blocks, EntryHas, MapHas}
use Rattle.ecd_core.specs.Values.{Gives, HasValue, PartGives, key_of, meaning, IsWithin, Run, run_items, run_value}
use Rattle.ecd_core.specs.Listed.{IsAt, PartsHave, entries_mean, field_of, ways_mean}

-- A value belongs to at most one item of a shape.
abbrev pub HasOneItem : Type 0
HasOneItem = (order : Order) (shape : Shape) (item other : Item) (value : Value) → HasValue order shape item value → HasValue order shape other value → item ≡ other

-- The key of a field is the one item that has a value under its key's shape.
abbrev pub HasOneKey : Type 0
HasOneKey = (order : Order) (shape : Shape) (key item : Item) → key_of shape.kind ≡ Some key → ((value : Value) × HasValue order shape item value) ↔ (item ≡ key)

-- The relation over the lists of the source, kind by kind.
abbrev pub TagGives : Type 0
TagGives = (order : Order) (n : ℕ) (s : Shape) (item : Item) (value : Value) →
    Gives order (k.Tag n s) item value ↔ ((content : Item) × (item ≡ i.Tag n content) × (n < 2 ^ 64) × HasValue order s content value)

abbrev pub AnyTagGives : Type 0
AnyTagGives = (order : Order) (s : Shape) (item : Item) (value : Value) →
    Gives order (k.AnyTag s) item value ↔ ((n : ℕ) × (content : Item) × (one : Value) × (item ≡ i.Tag n content) × (n < 2 ^ 64) × (value ≡ v.Tagged n one) × HasValue order s content one)

abbrev pub CborGives : Type 0
CborGives = (order : Order) (s : Shape) (item : Item) (value : Value) →
    Gives order (k.Cbor s) item value ↔ ((content : Item) × (item ≡ i.Bytes (encoding content)) × IsValid order content × HasValue order s content value)

abbrev pub ChoiceGives : Type 0
ChoiceGives = (order : Order) (ss : List Shape) (item : Item) (value : Value) →
    Gives order (k.Choice ss) item value ↔ ((number : ℕ) × (one : Value) × (value ≡ v.Way number one) × IsAt (λ (s : Shape). HasValue order s item one) ss number)

abbrev pub ArrayGives : Type 0
ArrayGives = (order : Order) (g : Group) (item : Item) (value : Value) →
    Gives order (k.Array g) item value ↔ ((items : List Item) × (values : List Value) × (item ≡ i.Array items) × (value ≡ v.Group values) × PartsHave order g.parts items values)

abbrev pub MapGives : Type 0
MapGives = (order : Order) (entries : List MapEntry) (item : Item) (value : Value) →
    Gives order (k.Map entries) item value ↔ ((pairs : List Pair) × (values : List Value) × (item ≡ i.Map pairs) × (value ≡ v.Group values) × MapHas order (entries_mean order entries) pairs values)

-- The same of the parts of a group.
abbrev pub OneGives : Type 0
OneGives = (order : Order) (s : Shape) (items : List Item) (value : Value) → PartGives order (p.One s) items value ↔ ((item : Item) × (items ≡ item ∷ []) × HasValue order s item value)

abbrev pub OptGives : Type 0
OptGives = (order : Order) (at : ℕ) (g : Group) (items : List Item) (value : Value) →
    PartGives order (p.Opt at g) items value ↔ (((items ≡ []) × (value ≡ v.Absent)) ⊎ ((values : List Value) × (value ≡ v.Present (v.Group values)) × PartsHave order g.parts items values))

abbrev pub ManyGives : Type 0
ManyGives = (order : Order) (at lo hi : ℕ) (g : Group) (items : List Item) (value : Value) →
    PartGives order (p.Many at lo hi g) items value
    ↔ ((runs : List Run) × (items ≡ run_items runs) × (value ≡ v.Many (map run_value runs)) × IsWithin lo hi (length runs) × Each (λ run. PartsHave order g.parts run.0 run.1) runs)

abbrev pub AltGives : Type 0
AltGives = (order : Order) (at : ℕ) (ways : List Way) (items : List Item) (value : Value) →
    PartGives order (p.Alt at ways) items value
    ↔ ((number : ℕ) × (values : List Value) × (value ≡ v.Way number (v.Group values)) × IsAt (λ (w : Way). PartsHave order w.body.parts items values) ways number)

-- The two are alike in every map: they take and block the same pairs, and have the same lists and values.
abbrev pub AreAlike : Order → EntryMeaning → EntryMeaning → Type 0
AreAlike order one other =
    (pairs : List Pair) → ((pair : Pair) → (Takes pairs pair one ↔ Takes pairs pair other) × (Blocks pairs pair one ↔ Blocks pairs pair other))
    × ((it : List Pair × Value) → EntryHas order pairs one it ↔ EntryHas order pairs other it)

-- What the entries of a map mean.
abbrev pub FieldMeans : Type 0
FieldMeans = (order : Order) (f : Field) → AreAlike order (meaning order (m.Field f)) (AField (field_of order f))

abbrev pub PickMeans : Type 0
PickMeans = (order : Order) (pick : Pick) → AreAlike order (meaning order (m.Pick pick)) (APick (out-Pick pick).needed (ways_mean order (out-Pick pick).ways))

abbrev pub TableMeans : Type 0
TableMeans = (order : Order) (t : Table) → AreAlike order (meaning order (m.Table t)) (ATable t.lo t.hi (HasValue order t.key) (HasValue order t.value))
