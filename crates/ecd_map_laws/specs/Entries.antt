-- What the words for entries of a map say of a field, a pick and a table of the source.
use Rattle.std.specs.Prelude.{◌≡◌, ◌↔◌, List}
use Rattle.ecd_keyorder.specs.declared.Order.{Order}
use Rattle.ecd_item_laws.specs.declared.item.Item.{Item}
use Rattle.ecd_item_laws.specs.declared.item.Pair.{Pair}
use Rattle.ecd_core.specs.declared.shape.MapEntry.{MapEntry}
use Rattle.ecd_core.specs.declared.shape.MapEntry.TheVariants as m
use Rattle.ecd_core.specs.declared.shape.Field.{Field}
use Rattle.ecd_core.specs.declared.shape.Pick.{Pick, out-Pick}
use Rattle.ecd_core.specs.declared.shape.Table.{Table}
use Rattle.ecd_core.specs.declared.value.Value.{Value}
use Rattle.ecd_core.specs.Listed.{entries_mean, field_of, ways_mean}
use Rattle.ecd_core.specs.Maps.{EntryMeaning, AField, APick, ATable}
use Rattle.ecd_core.specs.Values.{HasValue, meaning}
use Rattle.ecd_map_laws.specs.Taken.{TakesKey}
use Rattle.ecd_map_laws.specs.Tables.{IsTableOf}
use Rattle.ecd_map_laws.specs.Counts.{entry_count}
use Rattle.ecd_map_laws.specs.Existence.{HoldsPair, EntryMay}

-- The two take the same keys, are tables of the same keys, hold the same pairs, count the same, and are allowed the same in each map.
pub record SayTheSame (order : Order) (one other : EntryMeaning) : Type 0 where
  pub takes : (key : Item) (value : Value) → TakesKey key one value ↔ TakesKey key other value
  pub table : (key : Item) → IsTableOf key one ↔ IsTableOf key other
  pub holds : (pair : Pair) → HoldsPair pair one ↔ HoldsPair pair other
  pub count : (value : Value) → entry_count one value ≡ entry_count other value
  pub may : (entries : List MapEntry) (pairs : List Pair) → EntryMay (entries_mean order entries) pairs one ↔ EntryMay (entries_mean order entries) pairs other

abbrev pub FieldSays : Type 0
FieldSays = (order : Order) (f : Field) → SayTheSame order (meaning order (m.Field f)) (AField (field_of order f))

abbrev pub PickSays : Type 0
PickSays = (order : Order) (pick : Pick) → SayTheSame order (meaning order (m.Pick pick)) (APick (out-Pick pick).needed (ways_mean order (out-Pick pick).ways))

abbrev pub TableSays : Type 0
TableSays = (order : Order) (t : Table) → SayTheSame order (meaning order (m.Table t)) (ATable t.lo t.hi (HasValue order t.key) (HasValue order t.value))
