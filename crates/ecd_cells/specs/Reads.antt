-- The cells that a read sets, by the shape, the value, and the place of the item's encoding in a block. Offsets are sums of lengths of heads and of items (RFC
-- 8949, section 3).
use Rattle.std.specs.Prelude.{ℕ, zero, suc, ◌≡◌, ◌+◌, ◌⊎◌, nat_lt, Bool, true, false, List, [], ◌∷◌, ◌++◌, length, map, Some}
use Rattle.ecd_head.specs.Head.{head_bytes}
use Rattle.ecd_keyorder.specs.declared.Order.{Order}
use Rattle.ecd_item_laws.specs.declared.item.Item.{Item}
use Rattle.ecd_item_laws.specs.declared.item.Item.TheVariants as i
use Rattle.ecd_item_laws.specs.declared.item.Pair.{Pair}
use Rattle.ecd_item_laws.specs.Encoding.{encoding, encoded_length, key_bytes, pair_bytes}
use Rattle.ecd_item_laws.specs.Valid.{Ascend, IsValid}
use Rattle.ecd_cast.specs.declared.tree.CellInfo.{CellInfo}
use Rattle.ecd_cast.specs.declared.value.Cell.{Cell}
use Rattle.ecd_cast.specs.declared.value.Cell.TheVariants.{Number as HoldsNumber, Bytes as HoldsPointer}
use Rattle.ecd_cast.specs.Memory.{Name}
use Rattle.ecd_core.specs.declared.shape.Kind.{Kind, Choice', Tag', Cbor', AnyTag', Array', Map', Row_of-Shape, end_of-Shape, more_of-Shape, Row_of-MapEntry, end_of-MapEntry, more_of-MapEntry}
use Rattle.ecd_core.specs.declared.shape.Kind.TheVariants as k
use Rattle.ecd_core.specs.declared.shape.Shape.{Shape}
use Rattle.ecd_core.specs.declared.shape.Group.{Row_of-Part, end_of-Part, more_of-Part}
use Rattle.ecd_core.specs.declared.shape.Part.{Part, One', Opt', Many', Alt', Row_of-Way, end_of-Way, more_of-Way}
use Rattle.ecd_core.specs.declared.shape.MapEntry.{MapEntry, Field', Table'}
use Rattle.ecd_core.specs.declared.shape.MapEntry.TheVariants as m
use Rattle.ecd_core.specs.declared.shape.Table.{Table}
use Rattle.ecd_core.specs.declared.shape.Pick.{Pick, Pick', Row_of-MapWay, end_of-MapWay, more_of-MapWay}
use Rattle.ecd_core.specs.declared.value.Value.{Value}
use Rattle.ecd_core.specs.declared.value.Value.TheVariants as v
use Rattle.ecd_core.specs.Values.{PartGives, key_of}
use Rattle.ecd_cells.specs.Paths.{Path, start, part, choice_name, flag_name, pointer_name, length_name, count_name, tag_name, content_path, unit_name}
use Rattle.ecd_cells.specs.Structs.{has_table, cells, parts_cells}

-- ---- lengths

abbrev pub head_length : ℕ → ℕ → ℕ
head_length major argument = length (head_bytes major argument)

abbrev pub items_length : List Item → ℕ
items_length [] = 0
items_length (item ∷ items) = encoded_length item + items_length items

abbrev pub pairs_length : List Pair → ℕ
pairs_length [] = 0
pairs_length (pair ∷ pairs) = length (pair_bytes pair) + pairs_length pairs

-- ---- cells that are set

abbrev pub Setting : Type 0
Setting = Name × Cell

abbrev pub number_set : Path → Value → List Setting
number_set path (v.Number n) = (path, HoldsNumber n) ∷ []
number_set path _ = []

abbrev pub flag_set : Path → ℕ → Setting
flag_set path n = (flag_name path, HoldsNumber n)

abbrev pub choice_set : Path → ℕ → Setting
choice_set path number = (choice_name path, HoldsNumber number)

-- where a pair of the key stands, where the first pair stands at this place, and where its value does
pub record PairStands (key : Kind) (pairs : List Pair) (first : ℕ) (pair : Pair) (at : ℕ) : Type 0 where
  pub before : List Pair
  pub after : List Pair
  pub there : pairs ≡ before ++ pair ∷ after
  pub has_key : key_of key ≡ Some pair.key
  pub value_at : at ≡ first + (pairs_length before + encoded_length pair.key)

abbrev pub way_count : {m : _} → Row_of-MapWay m → ℕ
way_count end_of-MapWay = 0
way_count (more_of-MapWay _ _ entries rest) = suc (way_count rest)

module _ (order : Order) (block : ℕ) where
  -- so many bytes from an offset of the block on
  abbrev pub view_set : Path → (offset count : ℕ) → List Setting
  view_set path offset count = (pointer_name path, HoldsPointer block offset) ∷ (length_name path, HoldsNumber count) ∷ []

  abbrev pub list_set : Path → (offset bytes count : ℕ) → List Setting
  list_set path offset bytes count = (pointer_name path, HoldsPointer block offset) ∷ (length_name path, HoldsNumber bytes) ∷ (count_name path, HoldsNumber count) ∷ []

  -- a string's content stands behind its head
  abbrev pub string_set : Path → Item → ℕ → List Setting
  string_set path (i.Bytes bytes) at = view_set path (at + head_length 2 (length bytes)) (length bytes)
  string_set path (i.Text bytes) at = view_set path (at + head_length 3 (length bytes)) (length bytes)
  string_set path _ at = []

  -- all pairs of a map that has a table, those of fields among them
  abbrev pub region_set : Path → Bool → ℕ → List Pair → List Setting
  region_set path true first pairs = list_set path first (pairs_length pairs) (length pairs)
  region_set path false first pairs = []

  -- A needed field is read where its pair stands; another one has a flag, and is read there where the flag is 1.
  abbrev pub FieldReads : List Pair → (base : ℕ) → Path → (key : Kind) → (needed : Bool) → (Item → Value → ℕ → List Setting → Type 0) → Value → List Setting → Type 0
  FieldReads pairs base path key true read value sets = (pair : Pair) × (at : ℕ) × PairStands key pairs base pair at × read pair.value value at sets
  FieldReads pairs base path key false read value sets =
      ((value ≡ v.Absent) × (sets ≡ flag_set path 0 ∷ []))
      ⊎ ((pair : Pair) × (at : ℕ) × (one : Value) × (more : List Setting) × (value ≡ v.Present one) × (sets ≡ flag_set path 1 ∷ more) × PairStands key pairs base pair at
      × read pair.value one at more)

  -- ---- the relation

  unfoldable mutual
    -- A read of the item at this place, with this value, sets the cells.
    pub Reads : Path → Kind → Item → Value → ℕ → List Setting → Type 0
    Reads path (k.Uint lo hi) item value at sets = sets ≡ number_set path value
    Reads path (k.Nint lo hi) item value at sets = sets ≡ number_set path value
    Reads path (k.Bytes lo hi) item value at sets = sets ≡ string_set path item at
    Reads path (k.Text lo hi) item value at sets = sets ≡ string_set path item at
    Reads path (k.BytesIs bytes) item value at sets = sets ≡ []
    Reads path (k.TextIs bytes) item value at sets = sets ≡ []
    Reads path (k.Simple n) item value at sets = sets ≡ []
    Reads path (Tag' n _ inner) item value at sets = (content : Item) × (item ≡ i.Tag n content) × OnlyReads path inner content value (at + head_length 6 n) sets
    Reads path (AnyTag' _ inner) item value at sets =
        (n : ℕ) × (content : Item) × (one : Value) × (more : List Setting) × (item ≡ i.Tag n content) × (value ≡ v.Tagged n one) × (sets ≡ (tag_name path, HoldsNumber n) ∷ more)
        × OnlyReads (content_path path) inner content one (at + head_length 6 n) more
    Reads path (k.Any depth) item value at sets = sets ≡ view_set path at (encoded_length item)
    Reads path (k.AnyOf major depth) item value at sets = sets ≡ view_set path at (encoded_length item)
    Reads path (Cbor' _ inner) item value at sets =
        (content : Item) × (item ≡ i.Bytes (encoding content)) × IsValid order content × OnlyReads path inner content value (at + head_length 2 (encoded_length content)) sets
    Reads path (Choice' _ shapes) item value at sets =
        (number : ℕ) × (one : Value) × (more : List Setting) × (value ≡ v.Way number one) × (sets ≡ choice_set path number ∷ more) × AlternativeReads path 0 shapes number item one at more
    Reads path (Array' _ parts) item value at sets =
        (items : List Item) × (values : List Value) × (item ≡ i.Array items) × (value ≡ v.Group values) × PartsRead path 0 parts items values (at + head_length 4 (length items)) sets
    Reads path (Map' _ entries) item value at sets =
        (pairs : List Pair) × (values : List Value) × (some : List Setting) × (item ≡ i.Map pairs) × (value ≡ v.Group values)
        × Ascend order (map key_bytes pairs)
        × (sets ≡ some ++ region_set path (has_table entries) (at + head_length 5 (length pairs)) pairs) × EntriesRead pairs (at + head_length 5 (length pairs)) path 0 entries values some

    pub OnlyReads : {m : _} → Path → Row_of-Shape m → Item → Value → ℕ → List Setting → Type 0
    OnlyReads path end_of-Shape item value at sets = ⊥
    OnlyReads path (more_of-Shape _ kind rest) item value at sets = Reads path kind item value at sets

    -- The first of the alternatives has the number `first`, and the one that is read stands so many behind it.
    pub AlternativeReads : {m : _} → Path → (first : ℕ) → Row_of-Shape m → ℕ → Item → Value → ℕ → List Setting → Type 0
    AlternativeReads path first end_of-Shape number item value at sets = ⊥
    AlternativeReads path first (more_of-Shape _ kind rest) zero item value at sets = Reads (part path first) kind item value at sets
    AlternativeReads path first (more_of-Shape _ kind rest) (suc number) item value at sets = AlternativeReads path (suc first) rest number item value at sets

    -- The first of the items stands at the place. Each part has the items that have its value.
    pub PartsRead : {m : _} → Path → (first : ℕ) → Row_of-Part m → List Item → List Value → ℕ → List Setting → Type 0
    PartsRead path first end_of-Part items values at sets = (items ≡ []) × (values ≡ []) × (sets ≡ [])
    PartsRead path first (more_of-Part one rest) items values at sets =
        (front : List Item) × (back : List Item) × (value : Value) × (others : List Value) × (some : List Setting) × (more : List Setting)
        × (items ≡ front ++ back) × (values ≡ value ∷ others) × (sets ≡ some ++ more) × PartGives order one front value
        × PartReads (part path first) one front value at some × PartsRead path (suc first) rest back others (at + items_length front) more

    pub PartReads : Path → Part → List Item → Value → ℕ → List Setting → Type 0
    PartReads path (One' _ kind) items value at sets = (item : Item) × (items ≡ item ∷ []) × Reads path kind item value at sets
    PartReads path (Opt' _ _ body) items value at sets =
        ((items ≡ []) × (value ≡ v.Absent) × (sets ≡ flag_set path 0 ∷ []))
        ⊎ ((values : List Value) × (more : List Setting) × (value ≡ v.Present (v.Group values)) × (sets ≡ flag_set path 1 ∷ more) × PartsRead path 0 body items values at more)
    PartReads path (Many' _ lo hi _ body) items value at sets = (values : List Value) × (value ≡ v.Many values) × (sets ≡ list_set path at (items_length items) (length values))
    PartReads path (Alt' _ _ ways) items value at sets =
        (number : ℕ) × (values : List Value) × (more : List Setting) × (value ≡ v.Way number (v.Group values)) × (sets ≡ choice_set path number ∷ more)
        × WayReads path 0 ways number items values at more

    pub WayReads : {m : _} → Path → (first : ℕ) → Row_of-Way m → ℕ → List Item → List Value → ℕ → List Setting → Type 0
    WayReads path first end_of-Way number items values at sets = ⊥
    WayReads path first (more_of-Way _ _ body rest) zero items values at sets = PartsRead (part path first) 0 body items values at sets
    WayReads path first (more_of-Way _ _ body rest) (suc number) items values at sets = WayReads path (suc first) rest number items values at sets

    -- The first of the map's pairs stands at the place `base`.
    pub EntriesRead : {m : _} → List Pair → (base : ℕ) → Path → (first : ℕ) → Row_of-MapEntry m → List Value → List Setting → Type 0
    EntriesRead pairs base path first end_of-MapEntry values sets = (values ≡ []) × (sets ≡ [])
    EntriesRead pairs base path first (more_of-MapEntry entry rest) values sets =
        (value : Value) × (others : List Value) × (some : List Setting) × (more : List Setting) × (values ≡ value ∷ others) × (sets ≡ some ++ more)
        × EntryReads pairs base (part path first) entry value some × EntriesRead pairs base path (suc first) rest others more

    pub EntryReads : List Pair → (base : ℕ) → Path → MapEntry → Value → List Setting → Type 0
    EntryReads pairs base path (Field' _ _ key cut lo _ kind) value sets = FieldReads pairs base path key (nat_lt 0 lo) (Reads path kind) value sets
    EntryReads pairs base path (m.Pick pick) value sets = PickReads pairs base path pick value sets
    EntryReads pairs base path (Table' _ lo hi _ key _ kind) value sets = sets ≡ []

    -- A pick that is not taken has the number of ways as its number.
    pub PickReads : List Pair → (base : ℕ) → Path → Pick → Value → List Setting → Type 0
    PickReads pairs base path (Pick' _ needed _ ways) value sets =
        ((value ≡ v.Absent) × (sets ≡ choice_set path (way_count ways) ∷ []))
        ⊎ ((number : ℕ) × (values : List Value) × (more : List Setting) × (value ≡ v.Way number (v.Group values)) × (sets ≡ choice_set path number ∷ more)
        × MapWayReads pairs base path 0 ways number values more)

    pub MapWayReads : {m : _} → List Pair → (base : ℕ) → Path → (first : ℕ) → Row_of-MapWay m → ℕ → List Value → List Setting → Type 0
    MapWayReads pairs base path first end_of-MapWay number values sets = ⊥
    MapWayReads pairs base path first (more_of-MapWay _ _ entries rest) zero values sets = FieldsRead pairs base (part path first) 0 entries values sets
    MapWayReads pairs base path first (more_of-MapWay _ _ entries rest) (suc number) values sets = MapWayReads pairs base path (suc first) rest number values sets

    -- The fields among the entries of a way.
    pub FieldsRead : {m : _} → List Pair → (base : ℕ) → Path → (first : ℕ) → Row_of-MapEntry m → List Value → List Setting → Type 0
    FieldsRead pairs base path first end_of-MapEntry values sets = (values ≡ []) × (sets ≡ [])
    FieldsRead pairs base path first (more_of-MapEntry (Field' _ _ key cut lo _ kind) rest) values sets =
        (value : Value) × (others : List Value) × (some : List Setting) × (more : List Setting) × (values ≡ value ∷ others) × (sets ≡ some ++ more)
        × FieldReads pairs base (part path first) key (nat_lt 0 lo) (Reads (part path first) kind) value some × FieldsRead pairs base path (suc first) rest others more
    FieldsRead pairs base path first (more_of-MapEntry (m.Pick pick) rest) values sets = FieldsRead pairs base path (suc first) rest values sets
    FieldsRead pairs base path first (more_of-MapEntry (Table' _ lo hi _ key _ kind) rest) values sets = FieldsRead pairs base path (suc first) rest values sets

  -- ---- structs

  -- where a struct's shape has no cell, the one cell that each struct has is set
  abbrev pub struct_sets : List CellInfo → List Setting → List Setting
  struct_sets [] sets = (unit_name, HoldsNumber 0) ∷ []
  struct_sets (cell ∷ more) sets = sets

  -- A read of an item of the root, at this place, sets the cells of struct 0.
  pub record RootReads (shape : Shape) (item : Item) (value : Value) (at : ℕ) (sets : List Setting) : Type 0 where
    pub own : List Setting
    pub reads : Reads start shape.kind item value at own
    pub sets_are : sets ≡ struct_sets (cells start shape.kind) own

  -- A step to an element of a list, whose items begin at this place, sets the cells of the list's struct.
  abbrev pub ElementReads : {m : _} → Row_of-Part m → List Item → List Value → ℕ → List Setting → Type 0
  ElementReads body items values at sets = (own : List Setting) × PartsRead start 0 body items values at own × (sets ≡ struct_sets (parts_cells start 0 body) own)

  -- A step to a pair of a table, at this place, sets the cells of the table's struct: those of the key and then those of the value.
  pub record PairReads (table : Table) (pair : Pair) (key value : Value) (at : ℕ) (sets : List Setting) : Type 0 where
    pub of_key : List Setting
    pub of_value : List Setting
    pub key_reads : Reads (part start 0) table.key.kind pair.key key at of_key
    pub value_reads : Reads (part start 1) table.value.kind pair.value value (at + encoded_length pair.key) of_value
    pub sets_are : sets ≡ struct_sets (cells (part start 0) table.key.kind ++ cells (part start 1) table.value.kind) (of_key ++ of_value)
