-- Which value an item has under a shape, in the sense of RFC 8610, sections 2 and 3. This project's own are the bound on the depth of Any and AnyOf, the
-- deterministic encoding inside a Cbor, and the matching of maps.
use Rattle.std.specs.Prelude.{Bool, ◌≡◌, ℕ, zero, suc, ◌<◌, ◌≤◌, ◌^◌, ◌⊎◌, ◌==◌, ◌&&◌, ◌||◌, nat_lt, nat_le, if◌then◌else◌, List, [], ◌∷◌, ◌++◌, length, map, Option, Some, None}
use Rattle.std.specs.Str.{IsUtf8, is_utf8}
use Rattle.ecd_keyorder.specs.declared.Order.{Order}
use Rattle.ecd_item_laws.specs.declared.item.Item.{Item, Array' as Array-i, Map' as Map-i, Tag' as Tag-i}
use Rattle.ecd_item_laws.specs.declared.item.Item.TheVariants as i
use Rattle.ecd_item_laws.specs.declared.item.Pair.{Pair}
use Rattle.ecd_item_laws.specs.Encoding.{encoding}
use Rattle.ecd_item_laws.specs.Valid.{IsValid, IsWhole}
use Rattle.ecd_core.specs.declared.shape.Kind.{Kind, Choice', Tag', Cbor', AnyTag', Array', Map', Row_of-Shape, end_of-Shape, more_of-Shape, Row_of-MapEntry, end_of-MapEntry, more_of-MapEntry}
use Rattle.ecd_core.specs.declared.shape.Kind.TheVariants as k
use Rattle.ecd_core.specs.declared.shape.Shape.{Shape}
use Rattle.ecd_core.specs.declared.shape.Group.{Row_of-Part, end_of-Part, more_of-Part}
use Rattle.ecd_core.specs.declared.shape.Part.{Part, One', Opt', Many', Alt', Row_of-Way, end_of-Way, more_of-Way}
use Rattle.ecd_core.specs.declared.shape.MapEntry.{MapEntry, Field', Table'}
use Rattle.ecd_core.specs.declared.shape.MapEntry.TheVariants as m
use Rattle.ecd_core.specs.declared.shape.Pick.{Pick, Pick', Row_of-MapWay, end_of-MapWay, more_of-MapWay}
use Rattle.ecd_core.specs.declared.value.Value.{Value}
use Rattle.ecd_core.specs.declared.value.Value.TheVariants as v
use Rattle.ecd_core.specs.Lists.{Each}
use Rattle.ecd_core.specs.Maps.{ItemValues, FieldMeaning, EntryMeaning, AField, APick, ATable, MapHas}

-- ---- words

-- The number is within the bounds.
abbrev pub IsWithin : ℕ → ℕ → ℕ → Type 0
IsWithin lo hi n = (lo ≤ n) × (n ≤ hi)

-- The value of a number: none where the bounds leave one number alone.
abbrev pub numbered : ℕ → ℕ → ℕ → Value
numbered lo hi n = if lo == hi then v.Unit else v.Number n

-- An argument within the bounds, which has 64 bits (RFC 8949, section 3).
abbrev pub IsArgument : ℕ → ℕ → ℕ → Type 0
IsArgument lo hi n = (n < 2 ^ 64) × IsWithin lo hi n

-- The major type of an item (RFC 8949, section 3.1).
abbrev pub major_of : Item → ℕ
major_of (i.Uint n) = 0
major_of (i.Nint n) = 1
major_of (i.Bytes bytes) = 2
major_of (i.Text bytes) = 3
major_of (Array-i _ items) = 4
major_of (Map-i _ pairs) = 5
major_of (Tag-i n _ inner) = 6
major_of (i.Simple n) = 7

-- An item, where it is one.
abbrev pub literal : Bool → Item → Option Item
literal holds item = if holds then Some item else None

-- The one item of a key's shape, where the shape is a literal that holds it: an argument has 64 bits, a text is UTF-8, and a simple value is 0 to 23 or
-- 32 to 255 (RFC 8949, sections 3, 3.1 and 3.3).
abbrev pub key_of : Kind → Option Item
key_of (k.Uint lo hi) = literal ((lo == hi) && nat_lt lo (2 ^ 64)) (i.Uint lo)
key_of (k.Nint lo hi) = literal ((lo == hi) && nat_lt lo (2 ^ 64)) (i.Nint lo)
key_of (k.Bytes lo hi) = None
key_of (k.Text lo hi) = None
key_of (k.BytesIs bytes) = Some (i.Bytes bytes)
key_of (k.TextIs bytes) = literal (is_utf8 bytes) (i.Text bytes)
key_of (k.Simple n) = literal (nat_lt n 24 || (nat_le 32 n && nat_lt n 256)) (i.Simple n)
key_of (Tag' n _ inner) = None
key_of (AnyTag' _ inner) = None
key_of (k.Any depth) = None
key_of (k.AnyOf major depth) = None
key_of (Cbor' _ inner) = None
key_of (Choice' _ ways) = None
key_of (Array' _ parts) = None
key_of (Map' _ entries) = None

-- A field is needed where its lower bound is not 0 (section 3.2).
abbrev pub field_from : Option Item → Bool → ℕ → ItemValues → FieldMeaning
field_from key cut lo under = record { key = key; cut = cut; needed = nat_lt 0 lo; under = under }

-- A run of a body: its items and the values of its parts.
abbrev pub Run : Type 0
Run = List Item × List Value

-- The items of all runs, one run after another.
abbrev pub run_items : List Run → List Item
run_items [] = []
run_items (run ∷ runs) = run.0 ++ run_items runs

-- The value of a run.
abbrev pub run_value : Run → Value
run_value run = v.Group run.1

-- ---- the relation

unfoldable mutual
  -- A shape of this kind gives the item the value.
  pub Gives : Order → Kind → Item → Value → Type 0
  Gives order (k.Uint lo hi) item value = (n : ℕ) × (item ≡ i.Uint n) × IsArgument lo hi n × (value ≡ numbered lo hi n)
  Gives order (k.Nint lo hi) item value = (n : ℕ) × (item ≡ i.Nint n) × IsArgument lo hi n × (value ≡ numbered lo hi n)
  Gives order (k.Bytes lo hi) item value = (bytes : List ℕ) × (item ≡ i.Bytes bytes) × IsWithin lo hi (length bytes) × (value ≡ v.Bytes bytes)
  Gives order (k.Text lo hi) item value = (bytes : List ℕ) × (item ≡ i.Text bytes) × IsUtf8 bytes × IsWithin lo hi (length bytes) × (value ≡ v.Bytes bytes)
  Gives order (k.BytesIs bytes) item value = (item ≡ i.Bytes bytes) × (value ≡ v.Unit)
  Gives order (k.TextIs bytes) item value = (item ≡ i.Text bytes) × IsUtf8 bytes × (value ≡ v.Unit)
  Gives order (k.Simple n) item value = (item ≡ i.Simple n) × IsValid order item × (value ≡ v.Unit)
  Gives order (Tag' n _ inner) item value = (content : Item) × (item ≡ i.Tag n content) × (n < 2 ^ 64) × OnlyGives order inner content value
  Gives order (AnyTag' _ inner) item value =
      (n : ℕ) × (content : Item) × (one : Value) × (item ≡ i.Tag n content) × (n < 2 ^ 64) × (value ≡ v.Tagged n one) × OnlyGives order inner content one
  Gives order (k.Any depth) item value = IsWhole order depth item × (value ≡ v.Bytes (encoding item))
  Gives order (k.AnyOf major depth) item value = IsWhole order depth item × (major_of item ≡ major) × (value ≡ v.Bytes (encoding item))
  Gives order (Cbor' _ inner) item value = (content : Item) × (item ≡ i.Bytes (encoding content)) × IsValid order content × OnlyGives order inner content value
  Gives order (Choice' _ shapes) item value = (number : ℕ) × (one : Value) × (value ≡ v.Way number one) × AlternativeGives order shapes number item one
  Gives order (Array' _ parts) item value = (items : List Item) × (values : List Value) × (item ≡ i.Array items) × (value ≡ v.Group values) × PartsGive order parts items values
  Gives order (Map' _ entries) item value = (pairs : List Pair) × (values : List Value) × (item ≡ i.Map pairs) × (value ≡ v.Group values) × MapHas order (meanings order entries) pairs values

  -- The shape inside does.
  pub OnlyGives : {m : _} → Order → Row_of-Shape m → Item → Value → Type 0
  OnlyGives order end_of-Shape item value = ⊥
  OnlyGives order (more_of-Shape at kind rest) item value = Gives order kind item value

  -- The alternative of this number does.
  pub AlternativeGives : {m : _} → Order → Row_of-Shape m → ℕ → Item → Value → Type 0
  AlternativeGives order end_of-Shape number item value = ⊥
  AlternativeGives order (more_of-Shape at kind rest) zero item value = Gives order kind item value
  AlternativeGives order (more_of-Shape at kind rest) (suc number) item value = AlternativeGives order rest number item value

  -- Some split of the items into the parts, in order, gives each part its value.
  pub PartsGive : {m : _} → Order → Row_of-Part m → List Item → List Value → Type 0
  PartsGive order end_of-Part items values = (items ≡ []) × (values ≡ [])
  PartsGive order (more_of-Part part rest) items values =
      (front : List Item) × (back : List Item) × (one : Value) × (others : List Value) × (items ≡ front ++ back) × (values ≡ one ∷ others)
      × PartGives order part front one × PartsGive order rest back others

  -- A part gives its items the value.
  pub PartGives : Order → Part → List Item → Value → Type 0
  PartGives order (One' at kind) items value = (item : Item) × (items ≡ item ∷ []) × Gives order kind item value
  PartGives order (Opt' at _ body) items value = ((items ≡ []) × (value ≡ v.Absent)) ⊎ ((values : List Value) × (value ≡ v.Present (v.Group values)) × PartsGive order body items values)
  PartGives order (Many' at lo hi _ body) items value =
      (runs : List Run) × (items ≡ run_items runs) × (value ≡ v.Many (map run_value runs)) × IsWithin lo hi (length runs) × Each (λ run. PartsGive order body run.0 run.1) runs
  PartGives order (Alt' at _ ways) items value = (number : ℕ) × (values : List Value) × (value ≡ v.Way number (v.Group values)) × WayGives order ways number items values

  -- The body of the way of this number does.
  pub WayGives : {m : _} → Order → Row_of-Way m → ℕ → List Item → List Value → Type 0
  WayGives order end_of-Way number items values = ⊥
  WayGives order (more_of-Way at _ body rest) zero items values = PartsGive order body items values
  WayGives order (more_of-Way at _ body rest) (suc number) items values = WayGives order rest number items values

  -- What the entries of a map mean.
  pub meanings : {m : _} → Order → Row_of-MapEntry m → List EntryMeaning
  meanings order end_of-MapEntry = []
  meanings order (more_of-MapEntry entry rest) = meaning order entry ∷ meanings order rest

  pub meaning : Order → MapEntry → EntryMeaning
  meaning order (Field' at _ key cut lo _ kind) = AField (field_from (key_of key) cut lo (Gives order kind))
  meaning order (m.Pick pick) = pick_meaning order pick
  meaning order (Table' at lo hi _ key _ kind) = ATable lo hi (Gives order key) (Gives order kind)

  pub pick_meaning : Order → Pick → EntryMeaning
  pick_meaning order (Pick' at needed _ ways) = APick needed (way_meanings order ways)

  pub way_meanings : {m : _} → Order → Row_of-MapWay m → List (List FieldMeaning)
  way_meanings order end_of-MapWay = []
  way_meanings order (more_of-MapWay at _ entries rest) = field_meanings order entries ∷ way_meanings order rest

  -- The fields among the entries. A pick or a table in a way has no part in it.
  pub field_meanings : {m : _} → Order → Row_of-MapEntry m → List FieldMeaning
  field_meanings order end_of-MapEntry = []
  field_meanings order (more_of-MapEntry (Field' at _ key cut lo _ kind) rest) = field_from (key_of key) cut lo (Gives order kind) ∷ field_meanings order rest
  field_meanings order (more_of-MapEntry (m.Pick pick) rest) = field_meanings order rest
  field_meanings order (more_of-MapEntry (Table' at lo hi _ key _ kind) rest) = field_meanings order rest

-- What a field of these parts means.
abbrev pub field_meaning : Order → Kind → Bool → ℕ → Kind → FieldMeaning
field_meaning order key cut lo kind = field_from (key_of key) cut lo (Gives order kind)

-- The item has the value under the shape.
abbrev pub HasValue : Order → Shape → Item → Value → Type 0
HasValue order shape item value = Gives order shape.kind item value
