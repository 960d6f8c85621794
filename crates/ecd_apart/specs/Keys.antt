-- The keys of a map's fields.
use Rattle.std.specs.Prelude.{◌≡◌, ◌⊎◌, ◌++◌, true, List, [], ◌∷◌, Some}
use Rattle.ecd_item_laws.specs.declared.item.Item.{Item}
use Rattle.ecd_core.specs.declared.shape.Kind.{Kind, Choice', Tag', Cbor', AnyTag', Array', Map', Row_of-Shape, end_of-Shape, more_of-Shape, Row_of-MapEntry, end_of-MapEntry, more_of-MapEntry}
use Rattle.ecd_core.specs.declared.shape.Kind.TheVariants as k
use Rattle.ecd_core.specs.declared.shape.Group.{Row_of-Part, end_of-Part, more_of-Part}
use Rattle.ecd_core.specs.declared.shape.Part.{Part, One', Opt', Many', Alt', Row_of-Way, end_of-Way, more_of-Way}
use Rattle.ecd_core.specs.declared.shape.MapEntry.{MapEntry, Field', Table'}
use Rattle.ecd_core.specs.declared.shape.MapEntry.TheVariants as m
use Rattle.ecd_core.specs.declared.shape.Pick.{Pick, Pick', Row_of-MapWay, end_of-MapWay, more_of-MapWay}
use Rattle.ecd_core.specs.Lists.{Each}
use Rattle.ecd_core.specs.Values.{key_of}

-- Two shapes of keys are literals of one item.
abbrev pub IsSameKey : Kind → Kind → Type 0
IsSameKey key other = (item : Item) × (key_of key ≡ Some item) × (key_of other ≡ Some item)

-- A plain field of this key has a cut (RFC 8610, section 3.5.4).
unfoldable pub HasCut : {m : _} → Row_of-MapEntry m → Kind → Type 0
HasCut end_of-MapEntry key = ⊥
HasCut (more_of-MapEntry (Field' at _ other cut lo _ kind) rest) key = ((cut ≡ true) × IsSameKey key other) ⊎ HasCut rest key
HasCut (more_of-MapEntry (m.Pick pick) rest) key = HasCut rest key
HasCut (more_of-MapEntry (Table' at lo hi _ other _ kind) rest) key = HasCut rest key

-- The keys of the fields among the entries of a way, and those of all fields of an entry.
unfoldable pub field_keys : {m : _} → Row_of-MapEntry m → List Kind
field_keys end_of-MapEntry = []
field_keys (more_of-MapEntry (Field' at _ key cut lo _ kind) rest) = key ∷ field_keys rest
field_keys (more_of-MapEntry (m.Pick pick) rest) = field_keys rest
field_keys (more_of-MapEntry (Table' at lo hi _ key _ kind) rest) = field_keys rest

unfoldable pub way_keys : {m : _} → Row_of-MapWay m → List Kind
way_keys end_of-MapWay = []
way_keys (more_of-MapWay at _ entries rest) = field_keys entries ++ way_keys rest

unfoldable pub pick_keys : Pick → List Kind
pick_keys (Pick' at needed _ ways) = way_keys ways

unfoldable pub entry_keys : MapEntry → List Kind
entry_keys (Field' at _ key cut lo _ kind) = key ∷ []
entry_keys (m.Pick pick) = pick_keys pick
entry_keys (Table' at lo hi _ key _ kind) = []

unfoldable pub all_keys : {m : _} → Row_of-MapEntry m → List Kind
all_keys end_of-MapEntry = []
all_keys (more_of-MapEntry entry rest) = entry_keys entry ++ all_keys rest

-- No key of the one list is a key of the other.
abbrev pub ShareNoKey : List Kind → List Kind → Type 0
ShareNoKey keys others = Each (λ (key : Kind). Each (λ (other : Kind). IsSameKey key other → ⊥) others) keys

-- No two keys of the list are one.
abbrev pub AreDifferent : List Kind → Type 0
AreDifferent [] = Unit {0}
AreDifferent (key ∷ keys) = ShareNoKey (key ∷ []) keys × AreDifferent keys

unfoldable pub WaysDiffer : {m : _} → Row_of-MapWay m → Type 0
WaysDiffer end_of-MapWay = Unit {0}
WaysDiffer (more_of-MapWay at _ entries rest) = AreDifferent (field_keys entries) × WaysDiffer rest

unfoldable pub PickDiffers : Pick → Type 0
PickDiffers (Pick' at needed _ ways) = WaysDiffer ways

unfoldable pub EntryDiffers : MapEntry → Type 0
EntryDiffers (Field' at _ key cut lo _ kind) = Unit {0}
EntryDiffers (m.Pick pick) = PickDiffers pick
EntryDiffers (Table' at lo hi _ key _ kind) = Unit {0}

-- The fields of a map that may be taken at once have different keys: only fields in different ways of one pick may have one key.
unfoldable pub FieldsDiffer : {m : _} → Row_of-MapEntry m → Type 0
FieldsDiffer end_of-MapEntry = Unit {0}
FieldsDiffer (more_of-MapEntry entry rest) = EntryDiffers entry × ShareNoKey (entry_keys entry) (all_keys rest) × FieldsDiffer rest

-- It is so of every map in a shape, the keys and values of its fields and tables among them.
unfoldable mutual
  pub KeysDiffer : Kind → Type 0
  KeysDiffer (k.Uint lo hi) = Unit {0}
  KeysDiffer (k.Nint lo hi) = Unit {0}
  KeysDiffer (k.Bytes lo hi) = Unit {0}
  KeysDiffer (k.Text lo hi) = Unit {0}
  KeysDiffer (k.BytesIs bytes) = Unit {0}
  KeysDiffer (k.TextIs bytes) = Unit {0}
  KeysDiffer (k.Simple n) = Unit {0}
  KeysDiffer (Tag' n _ inner) = ShapesDiffer inner
  KeysDiffer (AnyTag' _ inner) = ShapesDiffer inner
  KeysDiffer (k.Any depth) = Unit {0}
  KeysDiffer (k.AnyOf major depth) = Unit {0}
  KeysDiffer (Cbor' _ inner) = ShapesDiffer inner
  KeysDiffer (Choice' _ ways) = ShapesDiffer ways
  KeysDiffer (Array' _ parts) = PartsDiffer parts
  KeysDiffer (Map' _ entries) = FieldsDiffer entries × EntriesDiffer entries

  pub ShapesDiffer : {m : _} → Row_of-Shape m → Type 0
  ShapesDiffer end_of-Shape = Unit {0}
  ShapesDiffer (more_of-Shape at kind rest) = KeysDiffer kind × ShapesDiffer rest

  pub PartsDiffer : {m : _} → Row_of-Part m → Type 0
  PartsDiffer end_of-Part = Unit {0}
  PartsDiffer (more_of-Part part rest) = PartDiffers part × PartsDiffer rest

  pub PartDiffers : Part → Type 0
  PartDiffers (One' at kind) = KeysDiffer kind
  PartDiffers (Opt' at _ body) = PartsDiffer body
  PartDiffers (Many' at lo hi _ body) = PartsDiffer body
  PartDiffers (Alt' at _ ways) = GroupsDiffer ways

  pub GroupsDiffer : {m : _} → Row_of-Way m → Type 0
  GroupsDiffer end_of-Way = Unit {0}
  GroupsDiffer (more_of-Way at _ body rest) = PartsDiffer body × GroupsDiffer rest

  pub EntriesDiffer : {m : _} → Row_of-MapEntry m → Type 0
  EntriesDiffer end_of-MapEntry = Unit {0}
  EntriesDiffer (more_of-MapEntry entry rest) = EntryInside entry × EntriesDiffer rest

  pub EntryInside : MapEntry → Type 0
  EntryInside (Field' at _ key cut lo _ kind) = KeysDiffer key × KeysDiffer kind
  EntryInside (m.Pick pick) = PickInside pick
  EntryInside (Table' at lo hi _ key _ kind) = KeysDiffer key × KeysDiffer kind

  pub PickInside : Pick → Type 0
  PickInside (Pick' at needed _ ways) = MapWaysInside ways

  pub MapWaysInside : {m : _} → Row_of-MapWay m → Type 0
  MapWaysInside end_of-MapWay = Unit {0}
  MapWaysInside (more_of-MapWay at _ entries rest) = EntriesDiffer entries × MapWaysInside rest
