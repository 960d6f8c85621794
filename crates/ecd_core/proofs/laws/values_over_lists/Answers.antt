use Rattle.std.proofs.Common.{◌≡◌, ap}
use Rattle.ecd_keyorder.specs.declared.Order.{Order}
use Rattle.ecd_core.specs.declared.shape.MapEntry.TheVariants as m
use Rattle.ecd_core.specs.declared.shape.Pick.{out-Pick}
use Rattle.ecd_core.specs.Laws.{AreAlike}
use Rattle.ecd_core.specs.Listed.{field_of, ways_mean}
use Rattle.ecd_core.specs.Maps.{EntryMeaning, AField, APick, ATable, Takes, Blocks, EntryHas}
use Rattle.ecd_core.specs.Values.{meaning, HasValue}
use Rattle.ecd_core.proofs.Layers.{fwd, bwd}
use Rattle.ecd_core.proofs.Layers as layers
use Rattle.ecd_core.proofs.laws.values_over_lists.Goals as goal

alike : (order : Order) (one other : EntryMeaning) → one ≡ other → AreAlike order one other
alike order one other e = λ pairs. (
  (λ pair.
      let t = ap (λ (x : EntryMeaning). Takes pairs pair x) e in
      let b = ap (λ (x : EntryMeaning). Blocks pairs pair x) e in
      ((fwd t, bwd t), (fwd b, bwd b))),
  (λ it. let h = ap (λ (x : EntryMeaning). EntryHas order pairs x it) e in (fwd h, bwd h)),
)

pub returns : goal.returns
returns c = record {
  tag = λ o n s i v. let e = layers.Gives-Tag o n s i v in (fwd e, bwd e);
  any_tag = λ o s i v. let e = layers.Gives-AnyTag o s i v in (fwd e, bwd e);
  cbor = λ o s i v. let e = layers.Gives-Cbor o s i v in (fwd e, bwd e);
  choice = λ o ss i v. let e = layers.Gives-Choice o ss i v in (fwd e, bwd e);
  array = λ o g i v. let e = layers.Gives-Array o g i v in (fwd e, bwd e);
  pairs = λ o es i v. let e = layers.Gives-Map o es i v in (fwd e, bwd e);
  one = λ o s xs v. let e = layers.PartGives-One o s xs v in (fwd e, bwd e);
  opt = λ o at g xs v. let e = layers.PartGives-Opt o at g xs v in (fwd e, bwd e);
  many = λ o at lo hi g xs v. let e = layers.PartGives-Many o at lo hi g xs v in (fwd e, bwd e);
  alt = λ o at ways xs v. let e = layers.PartGives-Alt o at ways xs v in (fwd e, bwd e);
  field = λ o f. alike o (meaning o (m.Field f)) (AField (field_of o f)) (layers.meaning-Field o f);
  pick = λ o p. alike o (meaning o (m.Pick p)) (APick (out-Pick p).needed (ways_mean o (out-Pick p).ways)) (layers.meaning-Pick o p);
  table = λ o t. alike o (meaning o (m.Table t)) (ATable t.lo t.hi (HasValue o t.key) (HasValue o t.value)) (layers.meaning-Table o t);
}
