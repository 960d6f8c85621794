-- The laws of tables, over the lists of the source.
use Rattle.std.proofs.Common.{ℕ, zero, suc, ◌⊎◌, inl, inr, List, [], ◌∷◌, ◌++◌, ap, ◌∙◌, subst}
use Rattle.ecd_keyorder.specs.declared.Order.{Order}
use Rattle.ecd_item_laws.specs.declared.item.Item.{Item}
use Rattle.ecd_core.specs.declared.shape.Kind.{Kind}
use Rattle.ecd_core.specs.declared.shape.Kind.TheVariants as k
use Rattle.ecd_core.specs.declared.shape.Kind.TheBlock as block
use Rattle.ecd_core.specs.declared.shape.Shape.{Shape}
use Rattle.ecd_core.specs.declared.shape.MapEntry.{MapEntry, Field', Table'}
use Rattle.ecd_core.specs.declared.shape.MapEntry.TheVariants as m
use Rattle.ecd_core.specs.declared.shape.Pick.{Pick'}
use Rattle.ecd_core.specs.Lists.{HasSome, IsIn}
use Rattle.ecd_core.specs.Listed.{IsAt, entries_mean}
use Rattle.ecd_core.specs.Maps.{Takes, list_of, IsInOneList}
use Rattle.ecd_core.specs.Values.{Gives, meaning}
use Rattle.ecd_core.proofs.Layers.{entries-row}
use Rattle.ecd_shape_rules.specs.Demands.{keys_demanded, behind_tables, demands, entries_demand}
use Rattle.ecd_shape_rules.proofs.Kept.{Kept, kept_both}
use Rattle.ecd_shape_rules.proofs.DifferentKeys.{kept_entries_differ}
use Rattle.ecd_one_value.specs.Tables.{IsTableOf, IsKeptMap, OneTableOfKey, StandsByKey, StandsInTableOfKey, SameLists}
use Rattle.ecd_one_value.proofs.OneMap.{IsKeyOf, IsKeyAt, TablesApart, one_table, listed_key, same_lists}
use Rattle.ecd_one_value.proofs.OneValue.{kept_tables_apart}

module _ (order : Order) where
  map_tables_apart : (entries : List MapEntry) → Kept (demands (k.Map entries)) → TablesApart (entries_mean order entries)
  unfolding demands
  map_tables_apart entries h =
      let row = block.hidden-the_row-MapEntry-3 entries in
      let means = entries-row order row ∙ ap (entries_mean order) (block.items_hidden-the_row-MapEntry-3 entries) in
      let keys = kept_both (keys_demanded row) (behind_tables row ++ entries_demand row) h in
      let own = kept_both (behind_tables row) (entries_demand row) keys.1 in
      subst TablesApart means (kept_tables_apart order row (kept_entries_differ row own.1) own.0)

  kept_apart : (shape : Shape) (entries : List MapEntry) → IsKeptMap shape entries → TablesApart (entries_mean order entries)
  kept_apart shape entries h = map_tables_apart entries (subst (λ (kind : Kind). Kept (demands kind)) h.0 h.1)

  -- ---- a table of a key, and what it means

  key_of_table : (key : Item) (entry : MapEntry) → IsTableOf order key entry → IsKeyOf key (meaning order entry)
  unfolding Gives
  key_of_table key (Field' at _ own cut lo _ kind) h = h
  key_of_table key (m.Pick pick) h = absurd h
  key_of_table key (Table' at lo hi _ own _ kind) h = h

  table_of_key : (key : Item) (entry : MapEntry) → IsKeyOf key (meaning order entry) → IsTableOf order key entry
  unfolding Gives
  table_of_key key (Field' at _ own cut lo _ kind) h = h
  table_of_key key (m.Pick (Pick' at needed _ ways)) h = h
  table_of_key key (Table' at lo hi _ own _ kind) h = h

  keys_at : (key : Item) (entries : List MapEntry) (n : ℕ) → IsAt (IsTableOf order key) entries n → IsKeyAt key (entries_mean order entries) n
  keys_at key [] n h = h
  keys_at key (entry ∷ entries) zero h = key_of_table key entry h
  keys_at key (entry ∷ entries) (suc n) h = keys_at key entries n h

  tables_at : (key : Item) (entries : List MapEntry) (n : ℕ) → IsKeyAt key (entries_mean order entries) n → IsAt (IsTableOf order key) entries n
  tables_at key [] n h = h
  tables_at key (entry ∷ entries) zero h = table_of_key key entry h
  tables_at key (entry ∷ entries) (suc n) h = tables_at key entries n h

pub one_table_of_key : OneTableOfKey
one_table_of_key order shape entries key one other kept p q = one_table key (entries_mean order entries) one other (kept_apart order shape entries kept) (keys_at order key entries one p) (keys_at order key entries other q)

pub stands_by_key : StandsByKey
stands_by_key order entries pairs values reading number pair there =
    tables_at order pair.key entries number (listed_key order pairs (entries_mean order entries) reading.each number pair reading.has there)

pub stands_in_table_of_key : StandsInTableOfKey
stands_in_table_of_key order shape entries pairs values reading number pair kept here free table = from (reading.covered pair here)
  where
    from : HasSome (Takes pairs pair) (entries_mean order entries) ⊎ IsInOneList reading.each pair → IsIn pair (list_of reading.each number)
    from (inl taken) = absurd (free taken)
    from (inr stands) =
        let own = stands_by_key order entries pairs values reading stands.0 pair stands.1 in
        subst (λ (n : ℕ). IsIn pair (list_of reading.each n)) (one_table_of_key order shape entries pair.key stands.0 number kept own table) stands.1

pub have_same_lists : SameLists
have_same_lists order shape entries pairs values others one other number kept = same_lists order (entries_mean order entries) (kept_apart order shape entries kept) pairs values others one other number
