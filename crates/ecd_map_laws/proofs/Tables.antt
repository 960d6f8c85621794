-- A pair that no field takes stands in the list of exactly the table whose key's shape gives its key a value.
use Rattle.std.proofs.Common.{◌≡◌, ℕ, zero, suc, ◌⊎◌, inl, inr, List, [], ◌∷◌, subst}
use Rattle.ecd_keyorder.specs.declared.Order.{Order}
use Rattle.ecd_item_laws.specs.declared.item.Item.{Item}
use Rattle.ecd_item_laws.specs.declared.item.Pair.{Pair}
use Rattle.ecd_core.specs.declared.value.Value.{Value}
use Rattle.ecd_core.specs.Lists.{HasSome, IsIn}
use Rattle.ecd_core.specs.Listed.{entries_mean}
use Rattle.ecd_core.specs.Maps.{EntryMeaning, AField, APick, ATable, Takes, list_of, IsInOneList, MapHas}
use Rattle.ecd_core.proofs.Ascending.{same_members}
use Rattle.ecd_one_value.proofs.OneMap.{IsKeyAt, TablesApart, one_table, listed_key}
use Rattle.ecd_map_laws.specs.Tables.{IsTableAt, PairHasOneTable, KeyHasOneTable, MergeInOneWay}
use Rattle.ecd_map_laws.proofs.Rules.{tables_apart_by_rules}

pub table_at : (key : Item) (entries : List EntryMeaning) (number : ℕ) → IsKeyAt key entries number → IsTableAt key entries number
table_at key [] number h = h
table_at key (AField field ∷ entries) zero h = h
table_at key (APick needed ways ∷ entries) zero h = h
table_at key (ATable lo hi keys under ∷ entries) zero h = h
table_at key (entry ∷ entries) (suc number) h = table_at key entries number h

pub at_table : (key : Item) (entries : List EntryMeaning) (number : ℕ) → IsTableAt key entries number → IsKeyAt key entries number
at_table key [] number h = h
at_table key (AField field ∷ entries) zero h = h
at_table key (APick needed ways ∷ entries) zero h = h
at_table key (ATable lo hi keys under ∷ entries) zero h = h
at_table key (entry ∷ entries) (suc number) h = at_table key entries number h

pub same_table : (entries : List EntryMeaning) → TablesApart entries → (key : Item) (number other : ℕ) → IsTableAt key entries number → IsTableAt key entries other → number ≡ other
same_table entries apart key number other h g = one_table key entries number other apart (at_table key entries number h) (at_table key entries other g)

module _ (order : Order) (entries : List EntryMeaning) (apart : TablesApart entries) (pairs : List Pair) (values : List Value) (whole : MapHas order entries pairs values) where
  stands_at : (pair : Pair) (number : ℕ) → IsIn pair (list_of whole.each number) → IsTableAt pair.key entries number
  stands_at pair number stands = table_at pair.key entries number (listed_key order pairs entries whole.each number pair whole.has stands)

  at_stands : (pair : Pair) (number : ℕ) → IsIn pair pairs → (HasSome (Takes pairs pair) entries → ⊥) → IsTableAt pair.key entries number → IsIn pair (list_of whole.each number)
  at_stands pair number here free at = from (whole.covered pair here)
    where
      from : HasSome (Takes pairs pair) entries ⊎ IsInOneList whole.each pair → IsIn pair (list_of whole.each number)
      from (inl takes) = absurd (free takes)
      from (inr one) = subst (λ (n : ℕ). IsIn pair (list_of whole.each n)) (same_table entries apart pair.key one.0 number (stands_at pair one.0 one.1) at) one.1

pub pair_has_one_table : PairHasOneTable
pair_has_one_table order shape entries pairs values e keeps whole pair number here free =
    let apart = tables_apart_by_rules order shape entries e keeps in
    (stands_at order (entries_mean order entries) apart pairs values whole pair number, at_stands order (entries_mean order entries) apart pairs values whole pair number here free)

pub key_has_one_table : KeyHasOneTable
key_has_one_table order shape entries key number other e keeps h g = same_table (entries_mean order entries) (tables_apart_by_rules order shape entries e keeps) key number other h g

pub merge_in_one_way : MergeInOneWay
merge_in_one_way order pairs others a b same = same_members order pairs others a b (λ pair i. (same pair).0 i) (λ pair i. (same pair).1 i)
