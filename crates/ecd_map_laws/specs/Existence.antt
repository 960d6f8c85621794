-- Which maps have values: what a check of a map decides, going once through the pairs. The matching is that of RFC 8610, sections 3.5.1, 3.5.2 and 3.5.4, in this
-- project's own sense.
use Rattle.std.specs.Prelude.{◌≡◌, ◌↔◌, ◌⊎◌, ℕ, suc, ◌+◌, ◌≤◌, Bool, false, List, [], ◌∷◌, ◌++◌, map}
use Rattle.ecd_keyorder.specs.declared.Order.{Order}
use Rattle.ecd_item_laws.specs.declared.item.Pair.{Pair}
use Rattle.ecd_item_laws.specs.Encoding.{key_bytes}
use Rattle.ecd_item_laws.specs.Valid.{Ascend, IsValid}
use Rattle.ecd_core.specs.declared.shape.Kind.TheVariants as k
use Rattle.ecd_core.specs.declared.shape.Shape.{Shape}
use Rattle.ecd_core.specs.declared.shape.MapEntry.{MapEntry}
use Rattle.ecd_core.specs.declared.value.Value.{Value}
use Rattle.ecd_core.specs.Lists.{Each, HasSome}
use Rattle.ecd_core.specs.Listed.{entries_mean}
use Rattle.ecd_core.specs.Values.{meaning}
use Rattle.ecd_core.specs.Maps.{FieldMeaning, EntryMeaning, AField, APick, ATable, Fits, way_of, IsTaken, Takes, Blocks, RowHas, MapHas}
use Rattle.ecd_shape_rules.specs.Demands.{KeepsRules}

-- So many of the elements are so, and of each it is settled whether it is.
abbrev pub Number : {A : Type 0} → (A → Type 0) → List A → ℕ → Type 0
Number P [] n = n ≡ 0
Number P (x ∷ xs) n = (P x × (rest : ℕ) × (n ≡ suc rest) × Number P xs rest) ⊎ ((P x → ⊥) × Number P xs n)

-- The entry is a table whose shapes give the pair's key and value values.
abbrev pub HoldsPair : Pair → EntryMeaning → Type 0
HoldsPair pair (AField field) = ⊥
HoldsPair pair (APick needed ways) = ⊥
HoldsPair pair (ATable lo hi keys under) = (row : Value) × RowHas keys under pair row

-- No field takes the pair, and the entry is such a table.
abbrev pub GoesTo : List EntryMeaning → List Pair → EntryMeaning → Pair → Type 0
GoesTo entries pairs entry pair = (HasSome (Takes pairs pair) entries → ⊥) × HoldsPair pair entry

-- A field fits, or need not.
abbrev pub FieldMay : List Pair → FieldMeaning → Type 0
FieldMay pairs field = Fits pairs field ⊎ ((field.needed ≡ false) × (Fits pairs field → ⊥))

-- A pick has a taken way, or need not. In the taken way the needed fields fit; of the others it is settled.
abbrev pub PickMay : List Pair → Bool → List (List FieldMeaning) → Type 0
PickMay pairs needed ways =
    ((number : ℕ) × IsTaken pairs ways number × Each (FieldMay pairs) (way_of ways number)) ⊎ ((needed ≡ false) × ((number : ℕ) → IsTaken pairs ways number → ⊥))

-- As many pairs go to a table as its bounds allow.
abbrev pub EntryMay : List EntryMeaning → List Pair → EntryMeaning → Type 0
EntryMay entries pairs (AField field) = FieldMay pairs field
EntryMay entries pairs (APick needed ways) = PickMay pairs needed ways
EntryMay entries pairs (ATable lo hi keys under) = (n : ℕ) × Number (GoesTo entries pairs (ATable lo hi keys under)) pairs n × (lo ≤ n) × (n ≤ hi)

-- A field takes the pair, or none does and none blocks it, and a table holds it.
abbrev pub PairMay : List EntryMeaning → List Pair → Pair → Type 0
PairMay entries pairs pair =
    HasSome (Takes pairs pair) entries ⊎ ((HasSome (Takes pairs pair) entries → ⊥) × (HasSome (Blocks pairs pair) entries → ⊥) × HasSome (HoldsPair pair) entries)

-- The pairs are those of a map that has values.
pub record MapMay (order : Order) (entries : List EntryMeaning) (pairs : List Pair) : Type 0 where
  pub valid : Each (λ pair. IsValid order pair.key) pairs
  pub ascend : Ascend order (map key_bytes pairs)
  pub allowed : Each (EntryMay entries pairs) entries
  pub placed : Each (PairMay entries pairs) pairs

-- Under the rules a map has values exactly where that is so.
abbrev pub HasValues : Type 0
HasValues = (order : Order) (shape : Shape) (entries : List MapEntry) (pairs : List Pair) → shape.kind ≡ k.Map entries → KeepsRules shape
    → ((values : List Value) × MapHas order (entries_mean order entries) pairs values) ↔ MapMay order (entries_mean order entries) pairs

-- Of the pairs that go to an entry, among some pairs, there is one number, and one pair more adds one or none.
abbrev pub NumberIsOne : Type 0
NumberIsOne = (order : Order) (entries : List MapEntry) (pairs some : List Pair) (entry : MapEntry) (n m : ℕ) → Number (GoesTo (entries_mean order entries) pairs (meaning order entry)) some n
    → Number (GoesTo (entries_mean order entries) pairs (meaning order entry)) some m → n ≡ m

abbrev pub OneMoreCounts : Type 0
OneMoreCounts = (order : Order) (entries : List MapEntry) (pairs some : List Pair) (entry : MapEntry) (pair : Pair) (n : ℕ) → Number (GoesTo (entries_mean order entries) pairs (meaning order entry)) some n
    → (GoesTo (entries_mean order entries) pairs (meaning order entry) pair → Number (GoesTo (entries_mean order entries) pairs (meaning order entry)) (some ++ pair ∷ []) (n + 1))
    × ((GoesTo (entries_mean order entries) pairs (meaning order entry) pair → ⊥) → Number (GoesTo (entries_mean order entries) pairs (meaning order entry)) (some ++ pair ∷ []) n)
