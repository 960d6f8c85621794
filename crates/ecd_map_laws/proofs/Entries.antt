-- What the words for entries of a map say of a field, a pick and a table of the source.
use Rattle.std.proofs.Common.{◌≡◌, ap}
use Rattle.ecd_keyorder.specs.declared.Order.{Order}
use Rattle.ecd_core.specs.declared.shape.MapEntry.TheVariants as m
use Rattle.ecd_core.specs.declared.shape.Pick.{out-Pick}
use Rattle.ecd_core.specs.Listed.{entries_mean, field_of, ways_mean}
use Rattle.ecd_core.specs.Maps.{EntryMeaning, AField, APick, ATable}
use Rattle.ecd_core.specs.Values.{HasValue, meaning}
use Rattle.ecd_core.proofs.Layers.{fwd, bwd, meaning-Field, meaning-Pick, meaning-Table}
use Rattle.ecd_map_laws.specs.Taken.{TakesKey}
use Rattle.ecd_map_laws.specs.Tables.{IsTableOf}
use Rattle.ecd_map_laws.specs.Counts.{entry_count}
use Rattle.ecd_map_laws.specs.Existence.{HoldsPair, EntryMay}
use Rattle.ecd_map_laws.specs.Entries.{SayTheSame, FieldSays, PickSays, TableSays}

say_the_same : (order : Order) (one other : EntryMeaning) → one ≡ other → SayTheSame order one other
say_the_same order one other e = record {
  takes = λ key value. let h = ap (λ (x : EntryMeaning). TakesKey key x value) e in (fwd h, bwd h);
  table = λ key. let h = ap (λ (x : EntryMeaning). IsTableOf key x) e in (fwd h, bwd h);
  holds = λ pair. let h = ap (λ (x : EntryMeaning). HoldsPair pair x) e in (fwd h, bwd h);
  count = λ value. ap (λ (x : EntryMeaning). entry_count x value) e;
  may = λ entries pairs. let h = ap (λ (x : EntryMeaning). EntryMay (entries_mean order entries) pairs x) e in (fwd h, bwd h);
}

pub field_says : FieldSays
field_says order f = say_the_same order (meaning order (m.Field f)) (AField (field_of order f)) (meaning-Field order f)

pub pick_says : PickSays
pick_says order pick = say_the_same order (meaning order (m.Pick pick)) (APick (out-Pick pick).needed (ways_mean order (out-Pick pick).ways)) (meaning-Pick order pick)

pub table_says : TableSays
table_says order t = say_the_same order (meaning order (m.Table t)) (ATable t.lo t.hi (HasValue order t.key) (HasValue order t.value)) (meaning-Table order t)
