-- How many pairs a map (RFC 8610, section 3.5) has, by the values of its entries.
use Rattle.std.specs.Prelude.{◌≡◌, ℕ, ◌+◌, if◌then◌else◌, List, [], ◌∷◌, length}
use Rattle.ecd_keyorder.specs.declared.Order.{Order}
use Rattle.ecd_item_laws.specs.declared.item.Pair.{Pair}
use Rattle.ecd_core.specs.declared.shape.Kind.TheVariants as k
use Rattle.ecd_core.specs.declared.shape.Shape.{Shape}
use Rattle.ecd_core.specs.declared.shape.MapEntry.{MapEntry}
use Rattle.ecd_core.specs.declared.shape.MapWay.{MapWay}
use Rattle.ecd_core.specs.declared.value.Value.TheVariants as v
use Rattle.ecd_core.specs.declared.value.Value.{Value, Way', Group', Present', Many', Row_of-Value, end_of-Value, more_of-Value, items-the_row-Value}
use Rattle.ecd_core.specs.Listed.{entries_mean, ways_mean}
use Rattle.ecd_core.specs.Maps.{FieldMeaning, EntryMeaning, AField, APick, ATable, way_of, MapHas}
use Rattle.ecd_shape_rules.specs.Demands.{KeepsRules}

-- 1 for a value that says that something is there.
abbrev pub present_count : Value → ℕ
present_count (Present' _ inner) = 1
present_count _ = 0

-- A needed field has a pair, and so has another one that is present.
abbrev pub field_count : FieldMeaning → Value → ℕ
field_count field value = if field.needed then 1 else present_count value

-- The fields of a way, with these values.
abbrev pub fields_count : List FieldMeaning → List Value → ℕ
fields_count [] values = 0
fields_count (field ∷ fields) [] = 0
fields_count (field ∷ fields) (value ∷ values) = field_count field value + fields_count fields values

-- The values in a group, and those in the group that a value encloses.
abbrev pub group_values : Value → List Value
group_values (Group' _ values) = items-the_row-Value _ values
group_values _ = []

abbrev pub inner_values : {m : _} → Row_of-Value m → List Value
inner_values end_of-Value = []
inner_values (more_of-Value value rest) = group_values value

-- A pick has the pairs of its taken way.
abbrev pub pick_count : List (List FieldMeaning) → Value → ℕ
pick_count ways (Way' number _ inner) = fields_count (way_of ways number) (inner_values inner)
pick_count ways _ = 0

-- A table has a pair for each row.
abbrev pub table_count : Value → ℕ
table_count (Many' _ rows) = length (items-the_row-Value _ rows)
table_count _ = 0

abbrev pub entry_count : EntryMeaning → Value → ℕ
entry_count (AField field) value = field_count field value
entry_count (APick needed ways) value = pick_count ways value
entry_count (ATable lo hi keys under) value = table_count value

abbrev pub pairs_count : List EntryMeaning → List Value → ℕ
pairs_count [] values = 0
pairs_count (entry ∷ entries) [] = 0
pairs_count (entry ∷ entries) (value ∷ values) = entry_count entry value + pairs_count entries values

-- Under the rules the values of a map tell how many pairs it has.
abbrev pub NumberIsTold : Type 0
NumberIsTold = (order : Order) (shape : Shape) (entries : List MapEntry) (pairs : List Pair) (values : List Value) → shape.kind ≡ k.Map entries → KeepsRules shape
    → MapHas order (entries_mean order entries) pairs values → length pairs ≡ pairs_count (entries_mean order entries) values

-- The count by the forms of values: a present and an absent field, a taken way, a pick without one, a table.
abbrev pub PresentCounts : Type 0
PresentCounts = (one : Value) → (present_count (v.Present one) ≡ 1) × (present_count v.Absent ≡ 0)

abbrev pub PickCounts : Type 0
PickCounts = (order : Order) (ways : List MapWay) (number : ℕ) (values : List Value) →
    (pick_count (ways_mean order ways) (v.Way number (v.Group values)) ≡ fields_count (way_of (ways_mean order ways) number) values) × (pick_count (ways_mean order ways) v.Absent ≡ 0)

abbrev pub TableCounts : Type 0
TableCounts = (rows : List Value) → table_count (v.Many rows) ≡ length rows
