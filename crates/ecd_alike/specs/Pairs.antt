-- What shapes hold, beside each other in two lists that are equally long.
use Rattle.std.specs.Prelude.{◌≡◌, List}
use Rattle.ecd_core.specs.declared.shape.Shape.{Shape}
use Rattle.ecd_core.specs.declared.shape.Part.{Part}
use Rattle.ecd_core.specs.declared.shape.Way.{Way}
use Rattle.ecd_core.specs.declared.shape.MapEntry.{MapEntry}
use Rattle.ecd_core.specs.declared.shape.Field.{Field}
use Rattle.ecd_core.specs.declared.shape.Table.{Table}
use Rattle.ecd_core.specs.declared.shape.MapWay.{MapWay}
use Rattle.ecd_core.specs.Lists.{EachWith}
use Rattle.ecd_shape_rules.specs.Alike.{IsAlike, PartAlike, EntryAlike}

abbrev pub ShapesMatch : List Shape → List Shape → Type 0
ShapesMatch shapes others = EachWith (λ (s : Shape) (t : Shape). IsAlike s.kind t.kind) shapes others

abbrev pub PartsMatch : List Part → List Part → Type 0
PartsMatch parts others = EachWith PartAlike parts others

abbrev pub WaysMatch : List Way → List Way → Type 0
WaysMatch ways others = EachWith (λ (v : Way) (w : Way). PartsMatch v.body.parts w.body.parts) ways others

abbrev pub EntriesMatch : List MapEntry → List MapEntry → Type 0
EntriesMatch entries others = EachWith EntryAlike entries others

abbrev pub FieldsMatch : Field → Field → Type 0
FieldsMatch f g = IsAlike f.key.kind g.key.kind × (f.cut ≡ g.cut) × (f.lo ≡ g.lo) × IsAlike f.value.kind g.value.kind

abbrev pub TablesMatch : Table → Table → Type 0
TablesMatch t u = (t.lo ≡ u.lo) × (t.hi ≡ u.hi) × IsAlike t.key.kind u.key.kind × IsAlike t.value.kind u.value.kind

abbrev pub MapWaysMatch : List MapWay → List MapWay → Type 0
MapWaysMatch ways others = EachWith (λ (v : MapWay) (w : MapWay). EntriesMatch v.entries w.entries) ways others
