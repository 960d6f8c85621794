-- Under the rules the fields of a map that may be taken at once have different keys.
use Rattle.std.proofs.Common.{◌≡◌, inl, inr, Some, List, [], ◌∷◌, ◌++◌, subst}
use Rattle.ecd_keyorder.specs.declared.Order.{Order}
use Rattle.ecd_item_laws.specs.declared.item.Item.{Item}
use Rattle.ecd_core.specs.declared.shape.Kind.{Kind, Row_of-MapEntry, end_of-MapEntry, more_of-MapEntry}
use Rattle.ecd_core.specs.declared.shape.Kind.TheVariants as k
use Rattle.ecd_core.specs.declared.shape.Kind.TheBlock as block
use Rattle.ecd_core.specs.declared.shape.Shape.{Shape}
use Rattle.ecd_core.specs.declared.shape.MapEntry.{MapEntry, Field', Table'}
use Rattle.ecd_core.specs.declared.shape.MapEntry.TheVariants as m
use Rattle.ecd_core.specs.declared.shape.Pick.{Pick', Row_of-MapWay, end_of-MapWay, more_of-MapWay}
use Rattle.ecd_core.specs.Lists.{Each, HasSome}
use Rattle.ecd_core.specs.Listed.{entries_mean}
use Rattle.ecd_core.specs.Maps.{FieldMeaning, EntryMeaning, AField, APick, ATable}
use Rattle.ecd_core.specs.Values.{Gives, key_of, meanings, meaning, way_meanings, field_meanings}
use Rattle.ecd_apart.specs.Keys.{IsSameKey, field_keys, way_keys, pick_keys, entry_keys, all_keys, ShareNoKey, AreDifferent, WaysDiffer, PickDiffers, EntryDiffers, FieldsDiffer, KeysDiffer}
use Rattle.ecd_shape_rules.specs.Demands.{KeepsRules}
use Rattle.ecd_shape_rules.proofs.DifferentKeys.{keeping_has_different_keys}
use Rattle.ecd_map_laws.proofs.Rules.{entries_list}

-- the field has the key
abbrev pub OfKey : Item → FieldMeaning → Type 0
OfKey key field = field.key ≡ Some key

-- a field of the entry has it
abbrev pub MayTake : Item → EntryMeaning → Type 0
MayTake key (AField field) = OfKey key field
MayTake key (APick needed ways) = HasSome (HasSome (OfKey key)) ways
MayTake key (ATable lo hi keys under) = ⊥

-- the fields have different keys
abbrev pub WayApart : List FieldMeaning → Type 0
WayApart [] = Unit {0}
WayApart (field ∷ fields) = ((key : Item) → OfKey key field → HasSome (OfKey key) fields → ⊥) × WayApart fields

abbrev pub InsideApart : EntryMeaning → Type 0
InsideApart (AField field) = Unit {0}
InsideApart (APick needed ways) = Each WayApart ways
InsideApart (ATable lo hi keys under) = Unit {0}

abbrev pub FieldsApart : List EntryMeaning → Type 0
FieldsApart [] = Unit {0}
FieldsApart (entry ∷ entries) = InsideApart entry × ((key : Item) → MayTake key entry → HasSome (MayTake key) entries → ⊥) × FieldsApart entries

-- ---- keys in lists

abbrev IsAmong : Item → List Kind → Type 0
IsAmong key kinds = HasSome (λ kind. key_of kind ≡ Some key) kinds

among_left : (key : Item) (xs ys : List Kind) → IsAmong key xs → IsAmong key (xs ++ ys)
among_left key [] ys h = absurd h
among_left key (x ∷ xs) ys (inl e) = inl e
among_left key (x ∷ xs) ys (inr h) = inr (among_left key xs ys h)

among_right : (key : Item) (xs ys : List Kind) → IsAmong key ys → IsAmong key (xs ++ ys)
among_right key [] ys h = h
among_right key (x ∷ xs) ys h = inr (among_right key xs ys h)

not_shared : (key : Item) (xs ys : List Kind) → ShareNoKey xs ys → IsAmong key xs → IsAmong key ys → ⊥
not_shared key [] ys s h i = absurd h
not_shared key (x ∷ xs) ys s (inr h) i = not_shared key xs ys s.1 h i
not_shared key (x ∷ xs) ys s (inl e) i = one ys s.0 i
  where
    one : (others : List Kind) → Each (λ (other : Kind). IsSameKey x other → ⊥) others → IsAmong key others → ⊥
    one [] t j = absurd j
    one (y ∷ others) t (inl f) = t.0 (key, e, f)
    one (y ∷ others) t (inr j) = one others t.1 j

-- ---- from rows to meanings

module _ (order : Order) where
  fields_among : (key : Item) {n : _} (row : Row_of-MapEntry n) → HasSome (OfKey key) (field_meanings order row) → IsAmong key (field_keys row)
  unfolding Gives field_keys
  fields_among key end_of-MapEntry h = h
  fields_among key (more_of-MapEntry (Field' at _ other cut lo _ kind) rest) (inl e) = inl e
  fields_among key (more_of-MapEntry (Field' at _ other cut lo _ kind) rest) (inr h) = inr (fields_among key rest h)
  fields_among key (more_of-MapEntry (m.Pick pick) rest) h = fields_among key rest h
  fields_among key (more_of-MapEntry (Table' at lo hi _ other _ kind) rest) h = fields_among key rest h

  ways_among : (key : Item) {n : _} (row : Row_of-MapWay n) → HasSome (HasSome (OfKey key)) (way_meanings order row) → IsAmong key (way_keys row)
  unfolding Gives way_keys
  ways_among key end_of-MapWay h = absurd h
  ways_among key (more_of-MapWay at _ entries rest) (inl h) = among_left key (field_keys entries) (way_keys rest) (fields_among key entries h)
  ways_among key (more_of-MapWay at _ entries rest) (inr h) = among_right key (field_keys entries) (way_keys rest) (ways_among key rest h)

  entry_among : (key : Item) (entry : MapEntry) → MayTake key (meaning order entry) → IsAmong key (entry_keys entry)
  unfolding Gives entry_keys pick_keys
  entry_among key (Field' at _ other cut lo _ kind) h = inl h
  entry_among key (m.Pick (Pick' at needed _ ways)) h = ways_among key ways h
  entry_among key (Table' at lo hi _ other _ kind) h = absurd h

  all_among : (key : Item) {n : _} (row : Row_of-MapEntry n) → HasSome (MayTake key) (meanings order row) → IsAmong key (all_keys row)
  unfolding Gives all_keys
  all_among key end_of-MapEntry h = absurd h
  all_among key (more_of-MapEntry entry rest) (inl h) = among_left key (entry_keys entry) (all_keys rest) (entry_among key entry h)
  all_among key (more_of-MapEntry entry rest) (inr h) = among_right key (entry_keys entry) (all_keys rest) (all_among key rest h)

  way_apart : {n : _} (row : Row_of-MapEntry n) → AreDifferent (field_keys row) → WayApart (field_meanings order row)
  unfolding Gives field_keys
  way_apart end_of-MapEntry d = tt
  way_apart (more_of-MapEntry (Field' at _ key cut lo _ kind) rest) d = ((λ item e h. not_shared item (key ∷ []) (field_keys rest) d.0 (inl e) (fields_among item rest h)), way_apart rest d.1)
  way_apart (more_of-MapEntry (m.Pick pick) rest) d = way_apart rest d
  way_apart (more_of-MapEntry (Table' at lo hi _ key _ kind) rest) d = way_apart rest d

  ways_apart : {n : _} (row : Row_of-MapWay n) → WaysDiffer row → Each WayApart (way_meanings order row)
  unfolding Gives WaysDiffer
  ways_apart end_of-MapWay d = tt
  ways_apart (more_of-MapWay at _ entries rest) d = (way_apart entries d.0, ways_apart rest d.1)

  inside_apart : (entry : MapEntry) → EntryDiffers entry → InsideApart (meaning order entry)
  unfolding Gives EntryDiffers PickDiffers
  inside_apart (Field' at _ key cut lo _ kind) d = tt
  inside_apart (m.Pick (Pick' at needed _ ways)) d = ways_apart ways d
  inside_apart (Table' at lo hi _ key _ kind) d = tt

  fields_apart : {n : _} (row : Row_of-MapEntry n) → FieldsDiffer row → FieldsApart (meanings order row)
  unfolding Gives FieldsDiffer
  fields_apart end_of-MapEntry d = tt
  fields_apart (more_of-MapEntry entry rest) d = (inside_apart entry d.0, (λ key h i. not_shared key (entry_keys entry) (all_keys rest) d.1 (entry_among key entry h) (all_among key rest i)), fields_apart rest d.2)

  map_fields_apart : (entries : List MapEntry) → KeysDiffer (k.Map entries) → FieldsApart (entries_mean order entries)
  unfolding KeysDiffer
  map_fields_apart entries d = subst FieldsApart (entries_list order entries) (fields_apart (block.hidden-the_row-MapEntry-3 entries) d.0)

  pub fields_apart_by_rules : (shape : Shape) (entries : List MapEntry) → shape.kind ≡ k.Map entries → KeepsRules shape → FieldsApart (entries_mean order entries)
  fields_apart_by_rules shape entries e c = map_fields_apart entries (subst KeysDiffer e (keeping_has_different_keys shape c))
