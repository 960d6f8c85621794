-- Two shapes are apart: by the shapes alone they share no item. RFC 8610 has no such test, and leaves a choice whose alternatives overlap (section 2.2.2) to the
-- first that matches (appendix A).
use Rattle.std.specs.Prelude.{◌≡◌, ℕ, ◌+◌, ◌≤◌, ◌⊎◌, Bool, true, false, if◌then◌else◌, List, [], ◌∷◌, ◌++◌}
use Rattle.ecd_core.specs.declared.shape.Kind.{Kind, Choice', Tag', Cbor', AnyTag', Array', Map', Row_of-Shape, end_of-Shape, more_of-Shape, Row_of-MapEntry, end_of-MapEntry, more_of-MapEntry}
use Rattle.ecd_core.specs.declared.shape.Kind.TheVariants as k
use Rattle.ecd_core.specs.declared.shape.Group.{Row_of-Part, end_of-Part, more_of-Part}
use Rattle.ecd_core.specs.declared.shape.Part.{Part, One', Opt', Many', Alt'}
use Rattle.ecd_core.specs.declared.shape.MapEntry.{MapEntry, Field', Table'}
use Rattle.ecd_core.specs.declared.shape.MapEntry.TheVariants as m
use Rattle.ecd_core.specs.declared.shape.Pick.{Pick, Pick', Row_of-MapWay, end_of-MapWay, more_of-MapWay}
use Rattle.ecd_core.specs.Listed.{IsAt}
use Rattle.ecd_apart.specs.Boxes.{BoxesApart}
use Rattle.ecd_apart.specs.Keys.{IsSameKey, HasCut}

-- ---- the other shape, by what is asked of its parts

-- It holds of each alternative of a choice, down to those that are no choices.
unfoldable mutual
  pub AtLeaves : (Kind → Type 0) → Kind → Type 0
  AtLeaves P (k.Uint lo hi) = P (k.Uint lo hi)
  AtLeaves P (k.Nint lo hi) = P (k.Nint lo hi)
  AtLeaves P (k.Bytes lo hi) = P (k.Bytes lo hi)
  AtLeaves P (k.Text lo hi) = P (k.Text lo hi)
  AtLeaves P (k.BytesIs bytes) = P (k.BytesIs bytes)
  AtLeaves P (k.TextIs bytes) = P (k.TextIs bytes)
  AtLeaves P (k.Simple n) = P (k.Simple n)
  AtLeaves P (Tag' n s inner) = P (Tag' n s inner)
  AtLeaves P (AnyTag' s inner) = P (AnyTag' s inner)
  AtLeaves P (k.Any depth) = P (k.Any depth)
  AtLeaves P (k.AnyOf major depth) = P (k.AnyOf major depth)
  AtLeaves P (Cbor' s inner) = P (Cbor' s inner)
  AtLeaves P (Choice' _ ways) = AtAllLeaves P ways
  AtLeaves P (Array' s parts) = P (Array' s parts)
  AtLeaves P (Map' s entries) = P (Map' s entries)

  pub AtAllLeaves : (Kind → Type 0) → {m : _} → Row_of-Shape m → Type 0
  AtAllLeaves P end_of-Shape = Unit {0}
  AtAllLeaves P (more_of-Shape at kind rest) = AtLeaves P kind × AtAllLeaves P rest

-- Both are byte strings of certain bytes, or texts of certain bytes, and these differ.
abbrev pub IsOtherBytes : List ℕ → Kind → Type 0
IsOtherBytes bytes (k.BytesIs others) = bytes ≡ others → ⊥
IsOtherBytes bytes _ = ⊥

abbrev pub IsOtherText : List ℕ → Kind → Type 0
IsOtherText bytes (k.TextIs others) = bytes ≡ others → ⊥
IsOtherText bytes _ = ⊥

-- What is asked of the one shape inside.
abbrev pub OfOnly : (Kind → Type 0) → {m : _} → Row_of-Shape m → Type 0
OfOnly P end_of-Shape = ⊥
OfOnly P (more_of-Shape at kind rest) = P kind

-- It is a tag, and it holds of the content.
abbrev pub OfTagged : (Kind → Type 0) → Kind → Type 0
OfTagged P (Tag' n _ inner) = OfOnly P inner
OfTagged P (AnyTag' _ inner) = OfOnly P inner
OfTagged P _ = ⊥

-- It is a byte string that holds an encoding, and it holds of the content.
abbrev pub OfCbor : (Kind → Type 0) → Kind → Type 0
OfCbor P (Cbor' _ inner) = OfOnly P inner
OfCbor P _ = ⊥

-- ---- arrays

abbrev pub is_one : Part → Bool
is_one (One' at kind) = true
is_one _ = false

-- The shape of a part that is one item.
abbrev pub one_of : Part → List Kind
one_of (One' at kind) = kind ∷ []
one_of _ = []

-- The shapes of a group's first parts, as long as each is one item.
abbrev pub fixed_prefix : {m : _} → Row_of-Part m → List Kind
fixed_prefix end_of-Part = []
fixed_prefix (more_of-Part part rest) = if is_one part then one_of part ++ fixed_prefix rest else []

abbrev pub are_ones : {m : _} → Row_of-Part m → Bool
are_ones end_of-Part = true
are_ones (more_of-Part part rest) = if is_one part then are_ones rest else false

abbrev pub part_count : {m : _} → Row_of-Part m → ℕ
part_count end_of-Part = 0
part_count (more_of-Part part rest) = part_count rest + 1

-- The shapes of a group's last parts, the last one first, as long as each is one item.
abbrev pub fixed_suffix : {m : _} → Row_of-Part m → List Kind
fixed_suffix end_of-Part = []
fixed_suffix (more_of-Part part rest) = if are_ones rest then fixed_suffix rest ++ one_of part else fixed_suffix rest

-- It is an array, and it holds of its first items or of its last ones.
abbrev pub OfEnds : (first last : List Kind → Type 0) → Kind → Type 0
OfEnds first last (Array' _ parts) = first (fixed_prefix parts) ⊎ last (fixed_suffix parts)
OfEnds first last _ = ⊥

-- ---- maps

-- Each field among the entries of a way that has this key has a value shape of which it holds.
abbrev pub FieldsMiss : Kind → (Kind → Type 0) → {m : _} → Row_of-MapEntry m → Type 0
FieldsMiss key V end_of-MapEntry = Unit {0}
FieldsMiss key V (more_of-MapEntry (Field' at _ other cut lo _ kind) rest) = (IsSameKey key other → V kind) × FieldsMiss key V rest
FieldsMiss key V (more_of-MapEntry (m.Pick pick) rest) = FieldsMiss key V rest
FieldsMiss key V (more_of-MapEntry (Table' at lo hi _ other _ kind) rest) = FieldsMiss key V rest

abbrev pub WaysMiss : Kind → (Kind → Type 0) → {m : _} → Row_of-MapWay m → Type 0
WaysMiss key V end_of-MapWay = Unit {0}
WaysMiss key V (more_of-MapWay at _ entries rest) = FieldsMiss key V entries × WaysMiss key V rest

abbrev pub PickMisses : Kind → (Kind → Type 0) → Pick → Type 0
PickMisses key V (Pick' at needed _ ways) = WaysMiss key V ways

-- A pair of this key has no place in the map, where K says what is apart from the key, V what is apart from the value, and C that a plain field of the key has
-- a cut: each field of the key asks for another value, and each table for another key or another value, or never sees the pair.
abbrev pub EntriesMiss : Kind → (K V : Kind → Type 0) → (C : Type 0) → {m : _} → Row_of-MapEntry m → Type 0
EntriesMiss key K V C end_of-MapEntry = Unit {0}
EntriesMiss key K V C (more_of-MapEntry (Field' at _ other cut lo _ kind) rest) = (IsSameKey key other → V kind) × EntriesMiss key K V C rest
EntriesMiss key K V C (more_of-MapEntry (m.Pick pick) rest) = PickMisses key V pick × EntriesMiss key K V C rest
EntriesMiss key K V C (more_of-MapEntry (Table' at lo hi _ other _ kind) rest) = (K other ⊎ (V kind ⊎ C)) × EntriesMiss key K V C rest

-- It is a map in which a pair of this key has no place.
abbrev pub MapMisses : Kind → (K V : Kind → Type 0) → Kind → Type 0
MapMisses key K V (Map' _ entries) = EntriesMiss key K V (HasCut entries key) entries
MapMisses key K V _ = ⊥

-- It is a map with a plain field that is needed, of whose key and value it holds.
abbrev pub HasNeeded : (Kind → Kind → Type 0) → {m : _} → Row_of-MapEntry m → Type 0
HasNeeded P end_of-MapEntry = ⊥
HasNeeded P (more_of-MapEntry (Field' at _ key cut lo _ kind) rest) = ((1 ≤ lo) × P key kind) ⊎ HasNeeded P rest
HasNeeded P (more_of-MapEntry (m.Pick pick) rest) = HasNeeded P rest
HasNeeded P (more_of-MapEntry (Table' at lo hi _ key _ kind) rest) = HasNeeded P rest

abbrev pub MapNeeds : (Kind → Kind → Type 0) → Kind → Type 0
MapNeeds P (Map' _ entries) = HasNeeded P entries
MapNeeds P _ = ⊥

-- ---- the test

unfoldable mutual
  -- A choice is apart where each alternative is. Two shapes that are no choices are apart where their boxes share no head, or what is inside is apart: two
  -- literals of different bytes; the contents of two tags, or of two byte strings that hold an encoding; two items at one place from the front or from the
  -- end of two arrays; or a needed field of the one map whose pair has no place in the other.
  pub Apart : Kind → Kind → Type 0
  Apart (k.Uint lo hi) other = AtLeaves (BoxesApart (k.Uint lo hi)) other
  Apart (k.Nint lo hi) other = AtLeaves (BoxesApart (k.Nint lo hi)) other
  Apart (k.Bytes lo hi) other = AtLeaves (BoxesApart (k.Bytes lo hi)) other
  Apart (k.Text lo hi) other = AtLeaves (BoxesApart (k.Text lo hi)) other
  Apart (k.BytesIs bytes) other = AtLeaves (λ leaf. BoxesApart (k.BytesIs bytes) leaf ⊎ IsOtherBytes bytes leaf) other
  Apart (k.TextIs bytes) other = AtLeaves (λ leaf. BoxesApart (k.TextIs bytes) leaf ⊎ IsOtherText bytes leaf) other
  Apart (k.Simple n) other = AtLeaves (BoxesApart (k.Simple n)) other
  Apart (Tag' n s inner) other = AtLeaves (λ leaf. BoxesApart (Tag' n s inner) leaf ⊎ OfTagged (OnlyApart inner) leaf) other
  Apart (AnyTag' s inner) other = AtLeaves (λ leaf. BoxesApart (AnyTag' s inner) leaf ⊎ OfTagged (OnlyApart inner) leaf) other
  Apart (k.Any depth) other = AtLeaves (BoxesApart (k.Any depth)) other
  Apart (k.AnyOf major depth) other = AtLeaves (BoxesApart (k.AnyOf major depth)) other
  Apart (Cbor' s inner) other = AtLeaves (λ leaf. BoxesApart (Cbor' s inner) leaf ⊎ OfCbor (OnlyApart inner) leaf) other
  Apart (Choice' _ ways) other = EachApart ways other
  Apart (Array' s parts) other = AtLeaves (λ leaf. BoxesApart (Array' s parts) leaf ⊎ OfEnds (FirstApart parts) (LastApart parts) leaf) other
  Apart (Map' s entries) other =
      AtLeaves (λ leaf. BoxesApart (Map' s entries) leaf ⊎ (NeededMisses entries leaf ⊎ MapNeeds (λ key kind. AreMissed entries key kind (HasCut entries key)) leaf)) other

  pub OnlyApart : {m : _} → Row_of-Shape m → Kind → Type 0
  OnlyApart end_of-Shape other = ⊥
  OnlyApart (more_of-Shape at kind rest) other = Apart kind other

  pub EachApart : {m : _} → Row_of-Shape m → Kind → Type 0
  EachApart end_of-Shape other = Unit {0}
  EachApart (more_of-Shape at kind rest) other = Apart kind other × EachApart rest other

  -- At a place that both have in their fixed prefix the shapes are apart.
  pub FirstApart : {m : _} → Row_of-Part m → List Kind → Type 0
  FirstApart end_of-Part others = ⊥
  FirstApart (more_of-Part part rest) [] = ⊥
  FirstApart (more_of-Part part rest) (other ∷ others) = (is_one part ≡ true) × (PartApart part (other ∷ others) 0 ⊎ FirstApart rest others)

  -- At a place, counted from the end, that both have in their fixed suffix the shapes are apart.
  pub LastApart : {m : _} → Row_of-Part m → List Kind → Type 0
  LastApart end_of-Part others = ⊥
  LastApart (more_of-Part part rest) others = ((are_ones rest ≡ true) × PartApart part others (part_count rest)) ⊎ LastApart rest others

  -- It is one item, apart from the one of this number.
  pub PartApart : Part → List Kind → ℕ → Type 0
  PartApart (One' at kind) others number = IsAt (Apart kind) others number
  PartApart (Opt' at _ body) others number = ⊥
  PartApart (Many' at lo hi _ body) others number = ⊥
  PartApart (Alt' at _ ways) others number = ⊥

  -- The pair of a needed field among these has no place in the other map.
  pub NeededMisses : {m : _} → Row_of-MapEntry m → Kind → Type 0
  NeededMisses end_of-MapEntry other = ⊥
  NeededMisses (more_of-MapEntry entry rest) other = EntryMisses entry other ⊎ NeededMisses rest other

  pub EntryMisses : MapEntry → Kind → Type 0
  EntryMisses (Field' at _ key cut lo _ kind) other = (1 ≤ lo) × MapMisses key (Apart key) (Apart kind) other
  EntryMisses (m.Pick pick) other = ⊥
  EntryMisses (Table' at lo hi _ key _ kind) other = ⊥

  -- A pair of the other map's key and value has no place among these. C says that a plain field of the key has a cut.
  pub AreMissed : {m : _} → Row_of-MapEntry m → (key value : Kind) (C : Type 0) → Type 0
  AreMissed end_of-MapEntry key value C = Unit {0}
  AreMissed (more_of-MapEntry entry rest) key value C = IsMissed entry key value C × AreMissed rest key value C

  pub IsMissed : MapEntry → (key value : Kind) (C : Type 0) → Type 0
  IsMissed (Field' at _ own cut lo _ kind) key value C = IsSameKey key own → Apart kind value
  IsMissed (m.Pick pick) key value C = PickMissed pick key value
  IsMissed (Table' at lo hi _ own _ kind) key value C = Apart own key ⊎ (Apart kind value ⊎ C)

  pub PickMissed : Pick → (key value : Kind) → Type 0
  PickMissed (Pick' at needed _ ways) key value = WaysMissed ways key value

  pub WaysMissed : {m : _} → Row_of-MapWay m → (key value : Kind) → Type 0
  WaysMissed end_of-MapWay key value = Unit {0}
  WaysMissed (more_of-MapWay at _ entries rest) key value = FieldsMissed entries key value × WaysMissed rest key value

  pub FieldsMissed : {m : _} → Row_of-MapEntry m → (key value : Kind) → Type 0
  FieldsMissed end_of-MapEntry key value = Unit {0}
  FieldsMissed (more_of-MapEntry entry rest) key value = FieldMissed entry key value × FieldsMissed rest key value

  pub FieldMissed : MapEntry → (key value : Kind) → Type 0
  FieldMissed (Field' at _ own cut lo _ kind) key value = IsSameKey key own → Apart kind value
  FieldMissed (m.Pick pick) key value = Unit {0}
  FieldMissed (Table' at lo hi _ own _ kind) key value = Unit {0}
