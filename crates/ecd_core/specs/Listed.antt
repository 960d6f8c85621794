-- The relation over the lists of the source, by which the crates above cite it.
use Rattle.std.specs.Prelude.{◌≡◌, ℕ, zero, suc, List, [], ◌∷◌, ◌++◌, map}
use Rattle.ecd_keyorder.specs.declared.Order.{Order}
use Rattle.ecd_item_laws.specs.declared.item.Item.{Item}
use Rattle.ecd_core.specs.declared.shape.Part.{Part}
use Rattle.ecd_core.specs.declared.shape.MapEntry.{MapEntry, Field', Table'}
use Rattle.ecd_core.specs.declared.shape.MapEntry.TheVariants as m
use Rattle.ecd_core.specs.declared.shape.MapWay.{MapWay}
use Rattle.ecd_core.specs.declared.shape.Field.{Field}
use Rattle.ecd_core.specs.declared.value.Value.{Value}
use Rattle.ecd_core.specs.Maps.{FieldMeaning, EntryMeaning}
use Rattle.ecd_core.specs.Values.{PartGives, field_meaning, meaning}

-- It is so of the element of this number, and there is one.
abbrev pub IsAt : {A : Type 0} → (A → Type 0) → List A → ℕ → Type 0
IsAt P [] number = ⊥
IsAt P (x ∷ xs) zero = P x
IsAt P (x ∷ xs) (suc number) = IsAt P xs number

-- Some split of the items into the parts, in order, gives each part its value.
abbrev pub PartsHave : Order → List Part → List Item → List Value → Type 0
PartsHave order [] items values = (items ≡ []) × (values ≡ [])
PartsHave order (part ∷ parts) items values =
    (front : List Item) × (back : List Item) × (one : Value) × (others : List Value) × (items ≡ front ++ back) × (values ≡ one ∷ others)
    × PartGives order part front one × PartsHave order parts back others

-- What a field means.
abbrev pub field_of : Order → Field → FieldMeaning
field_of order field = field_meaning order field.key.kind field.cut field.lo field.value.kind

-- What the entries of a map mean.
abbrev pub entries_mean : Order → List MapEntry → List EntryMeaning
entries_mean order entries = map (meaning order) entries

-- What the fields among the entries of a way mean.
abbrev pub fields_mean : Order → List MapEntry → List FieldMeaning
fields_mean order [] = []
fields_mean order (Field' at _ key cut lo _ kind ∷ rest) = field_meaning order key cut lo kind ∷ fields_mean order rest
fields_mean order (m.Pick pick ∷ rest) = fields_mean order rest
fields_mean order (Table' at lo hi _ key _ kind ∷ rest) = fields_mean order rest

-- What the ways of a pick mean.
abbrev pub ways_mean : Order → List MapWay → List (List FieldMeaning)
ways_mean order ways = map (λ (way : MapWay). fields_mean order way.entries) ways
