-- In which table's list (RFC 8610, section 3.5.2) a pair of a map stands.
use Rattle.std.specs.Prelude.{◌≡◌, ◌↔◌, ℕ, zero, suc, List, [], ◌∷◌, map}
use Rattle.ecd_keyorder.specs.declared.Order.{Order}
use Rattle.ecd_item_laws.specs.declared.item.Item.{Item}
use Rattle.ecd_item_laws.specs.declared.item.Pair.{Pair}
use Rattle.ecd_item_laws.specs.Encoding.{key_bytes}
use Rattle.ecd_item_laws.specs.Valid.{Ascend}
use Rattle.ecd_core.specs.declared.shape.Kind.TheVariants as k
use Rattle.ecd_core.specs.declared.shape.Shape.{Shape}
use Rattle.ecd_core.specs.declared.shape.MapEntry.{MapEntry}
use Rattle.ecd_core.specs.declared.value.Value.{Value}
use Rattle.ecd_core.specs.Lists.{HasSome, EachWith, IsIn}
use Rattle.ecd_core.specs.Listed.{entries_mean}
use Rattle.ecd_core.specs.Maps.{EntryMeaning, AField, APick, ATable, Takes, list_of, MapHas}
use Rattle.ecd_core.specs.Owners.{OwnerFits, EntriesFit}
use Rattle.ecd_shape_rules.specs.Demands.{KeepsRules}

-- The entry is a table whose key's shape gives the item a value.
abbrev pub IsTableOf : Item → EntryMeaning → Type 0
IsTableOf key (AField field) = ⊥
IsTableOf key (APick needed ways) = ⊥
IsTableOf key (ATable lo hi keys under) = (value : Value) × keys key value

-- The entry of this number is such a table.
abbrev pub IsTableAt : Item → List EntryMeaning → ℕ → Type 0
IsTableAt key [] number = ⊥
IsTableAt key (entry ∷ entries) zero = IsTableOf key entry
IsTableAt key (entry ∷ entries) (suc number) = IsTableAt key entries number

-- Under the rules a pair that no field takes stands in the list of exactly the table whose key's shape gives its key a value.
abbrev pub PairHasOneTable : Type 0
PairHasOneTable = (order : Order) (shape : Shape) (entries : List MapEntry) (pairs : List Pair) (values : List Value) → shape.kind ≡ k.Map entries → KeepsRules shape → (whole : MapHas order (entries_mean order entries) pairs values)
    → (pair : Pair) (number : ℕ) → IsIn pair pairs → (HasSome (Takes pairs pair) (entries_mean order entries) → ⊥) → IsIn pair (list_of whole.each number) ↔ IsTableAt pair.key (entries_mean order entries) number

-- Under the rules the keys of a map's pairs have values under the key of at most one table.
abbrev pub KeyHasOneTable : Type 0
KeyHasOneTable = (order : Order) (shape : Shape) (entries : List MapEntry) (key : Item) (number other : ℕ) → shape.kind ≡ k.Map entries → KeepsRules shape
    → IsTableAt key (entries_mean order entries) number → IsTableAt key (entries_mean order entries) other → number ≡ other

-- Of a map with values the owner of a pair that no field takes is such a table.
abbrev pub OwnerIsTable : Type 0
OwnerIsTable = (order : Order) (entries : List MapEntry) (pairs : List Pair) (owners : List ℕ) (values : List Value) → EachWith (OwnerFits (entries_mean order entries) pairs) pairs owners
    → EntriesFit pairs owners 0 (entries_mean order entries) values → EachWith (λ pair owner. (HasSome (Takes pairs pair) (entries_mean order entries) → ⊥) → IsTableAt pair.key (entries_mean order entries) owner) pairs owners

-- Pairs whose keys ascend are told by which they are: the pairs that fields take and those in the lists of tables merge in one way.
abbrev pub MergeInOneWay : Type 0
MergeInOneWay = (order : Order) (pairs others : List Pair) → Ascend order (map key_bytes pairs) → Ascend order (map key_bytes others) → ((pair : Pair) → IsIn pair pairs ↔ IsIn pair others) → pairs ≡ others
