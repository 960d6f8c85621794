-- Which value a map has. RFC 8610 has fields, tables and cuts (sections 3.5.1, 3.5.2 and 3.5.4) and a first match (appendix A), and leaves open how the pairs
-- of a map are matched with its entries; the matching here is this project's own, in their sense. Entries stand here by what they mean, and no shape is looked at.
use Rattle.std.specs.Prelude.{◌≡◌, ℕ, ◌<◌, ◌≤◌, ◌⊎◌, Bool, true, false, List, [], ◌∷◌, length, map, get_or, Option, Some}
use Rattle.ecd_keyorder.specs.declared.Order.{Order}
use Rattle.ecd_item_laws.specs.declared.item.Item.{Item}
use Rattle.ecd_item_laws.specs.declared.item.Pair.{Pair}
use Rattle.ecd_item_laws.specs.Encoding.{key_bytes}
use Rattle.ecd_item_laws.specs.Valid.{Ascend, IsValid}
use Rattle.ecd_core.specs.declared.value.Value.{Value}
use Rattle.ecd_core.specs.declared.value.Value.TheVariants as v
use Rattle.ecd_core.specs.Lists.{Each, HasSome, EachWith, IsIn}

-- ---- what an entry means

-- Which values an item has.
abbrev pub ItemValues : Type 1
ItemValues = Item → Value → Type 0

-- A field (section 3.5.1): its key, where it has one; whether it has a cut; whether it is needed; and the values of what stands under the key.
pub record FieldMeaning : Type 1 where
  pub key : Option Item
  pub cut : Bool
  pub needed : Bool
  pub under : ItemValues

-- A field; a choice of groups of fields, one of which may be needed; a table (section 3.5.2) by the bounds of its number, its keys and its values.
pub data EntryMeaning : Type 1 where
  AField : FieldMeaning → EntryMeaning
  APick : (needed : Bool) → (ways : List (List FieldMeaning)) → EntryMeaning
  ATable : (lo hi : ℕ) → (keys under : ItemValues) → EntryMeaning

-- ---- fields and pairs

-- The pair has the field's key, and its value has this value under the field.
abbrev pub GivesPair : FieldMeaning → Value → Pair → Type 0
GivesPair field value pair = (field.key ≡ Some pair.key) × field.under pair.value value

-- The same, with some value.
abbrev pub Suits : FieldMeaning → Pair → Type 0
Suits field pair = (value : Value) × GivesPair field value pair

-- A field fits where some pair suits it.
abbrev pub Fits : List Pair → FieldMeaning → Type 0
Fits pairs field = HasSome (Suits field) pairs

-- A field with a cut stops a pair that has its key and does not suit it (section 3.5.4).
abbrev pub Stops : FieldMeaning → Pair → Type 0
Stops field pair = (field.cut ≡ true) × (field.key ≡ Some pair.key) × (Suits field pair → ⊥)

-- ---- the ways of a pick: the first that matches, in the sense of appendix A

-- All needed fields of the way fit.
abbrev pub NeededFit : List Pair → List FieldMeaning → Type 0
NeededFit pairs way = Each (λ field. (field.needed ≡ true) → Fits pairs field) way

-- The way of this number, from 0.
abbrev pub way_of : List (List FieldMeaning) → ℕ → List FieldMeaning
way_of ways number = get_or ways number []

-- The taken way is the first whose needed fields all fit.
pub record IsTaken (pairs : List Pair) (ways : List (List FieldMeaning)) (number : ℕ) : Type 0 where
  pub there : number < length ways
  pub whole : NeededFit pairs (way_of ways number)
  pub first : (earlier : ℕ) → earlier < number → NeededFit pairs (way_of ways earlier) → ⊥

-- The ways are tried up to the taken one; where none is taken, all of them.
pub record IsTried (pairs : List Pair) (ways : List (List FieldMeaning)) (number : ℕ) : Type 0 where
  pub there : number < length ways
  pub reached : (earlier : ℕ) → earlier < number → IsTaken pairs ways earlier → ⊥

-- ---- which pairs fields take, and which they block

-- A field of this entry takes the pair: a plain field which the pair suits, or such a field of the taken way.
abbrev pub Takes : List Pair → Pair → EntryMeaning → Type 0
Takes pairs pair (AField field) = Suits field pair
Takes pairs pair (APick needed ways) = (number : ℕ) × IsTaken pairs ways number × HasSome (λ field. Suits field pair) (way_of ways number)
Takes pairs pair (ATable lo hi keys under) = ⊥

-- A tried field of this entry stops the pair: a plain field, or a field of a tried way. It is asked only of a pair that no field takes: a field of a way tried
-- before the taken one may stop a pair that the taken way takes.
abbrev pub Blocks : List Pair → Pair → EntryMeaning → Type 0
Blocks pairs pair (AField field) = Stops field pair
Blocks pairs pair (APick needed ways) = (number : ℕ) × IsTried pairs ways number × HasSome (λ field. Stops field pair) (way_of ways number)
Blocks pairs pair (ATable lo hi keys under) = ⊥

-- ---- values

-- What is needed is its value; what may be absent is present with it.
abbrev pub held : Bool → Value → Value
held true value = value
held false value = v.Present value

-- A field that fits has the value of its pair; another one is absent, and may not be needed.
abbrev pub FieldHas : List Pair → FieldMeaning → Value → Type 0
FieldHas pairs field value =
    ((one : Value) × HasSome (GivesPair field one) pairs × (value ≡ held field.needed one))
    ⊎ ((field.needed ≡ false) × (Fits pairs field → ⊥) × (value ≡ v.Absent))

-- A pick has the number of its taken way and the values of that way's fields; one without a taken way is absent, and may not be needed.
abbrev pub PickHas : List Pair → Bool → List (List FieldMeaning) → Value → Type 0
PickHas pairs needed ways value =
    ((number : ℕ) × (values : List Value) × IsTaken pairs ways number × EachWith (FieldHas pairs) (way_of ways number) values × (value ≡ v.Way number (v.Group values)))
    ⊎ ((needed ≡ false) × ((number : ℕ) → IsTaken pairs ways number → ⊥) × (value ≡ v.Absent))

-- A pair of a table has the group of its key's value and its value's.
abbrev pub RowHas : ItemValues → ItemValues → Pair → Value → Type 0
RowHas keys under pair row = (key : Value) × (value : Value) × keys pair.key key × under pair.value value × (row ≡ v.Group (key ∷ value ∷ []))

-- The pairs in a table's list are in key order and as many as its bounds allow, and the table has a row for each.
abbrev pub TableHas : Order → ℕ → ℕ → ItemValues → ItemValues → List Pair → Value → Type 0
TableHas order lo hi keys under listed value =
    (rows : List Value) × Ascend order (map key_bytes listed) × (lo ≤ length listed) × (length listed ≤ hi) × EachWith (RowHas keys under) listed rows × (value ≡ v.Many rows)

-- An entry, its list and its value. Only a table has pairs in its list.
abbrev pub EntryHas : Order → List Pair → EntryMeaning → List Pair × Value → Type 0
EntryHas order pairs (AField field) it = (it.0 ≡ []) × FieldHas pairs field it.1
EntryHas order pairs (APick needed ways) it = (it.0 ≡ []) × PickHas pairs needed ways it.1
EntryHas order pairs (ATable lo hi keys under) it = TableHas order lo hi keys under it.0 it.1

-- The list of the entry of this number.
abbrev pub list_of : List (List Pair × Value) → ℕ → List Pair
list_of them number = (get_or them number ([], v.Unit)).0

-- The pair stands in the list of one entry and of no other.
abbrev pub IsInOneList : List (List Pair × Value) → Pair → Type 0
IsInOneList them pair = (number : ℕ) × IsIn pair (list_of them number) × ((other : ℕ) → IsIn pair (list_of them other) → other ≡ number)

abbrev pub value_of : List Pair × Value → Value
value_of it = it.1

-- A map has these values of its entries, in order, where each entry has its value, the keys are valid and ascend strictly in the order
-- (RFC 8949, section 4.2.1), and each pair is taken by a field or stands in the list of one table; what stands there is a pair that no field takes and none blocks.
pub record MapHas (order : Order) (entries : List EntryMeaning) (pairs : List Pair) (values : List Value) : Type 0 where
  pub valid : Each (λ pair. IsValid order pair.key) pairs
  pub ascend : Ascend order (map key_bytes pairs)
  pub each : List (List Pair × Value)
  pub values_are : values ≡ map value_of each
  pub has : EachWith (EntryHas order pairs) entries each
  pub covered : (pair : Pair) → IsIn pair pairs → HasSome (Takes pairs pair) entries ⊎ IsInOneList each pair
  pub listed : (number : ℕ) (pair : Pair) → IsIn pair (list_of each number) → IsIn pair pairs × (HasSome (Takes pairs pair) entries → ⊥) × (HasSome (Blocks pairs pair) entries → ⊥)
