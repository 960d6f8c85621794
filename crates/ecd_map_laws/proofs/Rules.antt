-- What the rules say of the meaning of a map's entries.
use Rattle.std.proofs.Common.{◌≡◌, List, ◌∷◌, ◌++◌, refl, ap, ◌∙◌, subst}
use mathlib.Core.Former.{Count}
use Rattle.ecd_keyorder.specs.declared.Order.{Order}
use Rattle.ecd_core.specs.declared.shape.Kind.{Kind, Row_of-MapEntry, end_of-MapEntry, more_of-MapEntry, items-the_row-MapEntry}
use Rattle.ecd_core.specs.declared.shape.Kind.TheVariants as k
use Rattle.ecd_core.specs.declared.shape.Kind.TheBlock as block
use Rattle.ecd_core.specs.declared.shape.Shape.{Shape}
use Rattle.ecd_core.specs.declared.shape.MapEntry.{MapEntry}
use Rattle.ecd_core.specs.Listed.{entries_mean}
use Rattle.ecd_core.specs.Maps.{EntryMeaning}
use Rattle.ecd_core.specs.Values.{Gives, meanings, meaning}
use Rattle.ecd_shape_rules.specs.Demands.{KeepsRules, keys_demanded, behind_tables, entries_demand, demands}
use Rattle.ecd_shape_rules.proofs.Kept.{Kept, kept_both}
use Rattle.ecd_shape_rules.proofs.DifferentKeys.{kept_entries_differ}
use Rattle.ecd_one_value.proofs.OneMap.{TablesApart}
use Rattle.ecd_one_value.proofs.OneValue.{kept_tables_apart}

module _ (order : Order) where
  entries_row : {n : Count} (row : Row_of-MapEntry n) → meanings order row ≡ entries_mean order (items-the_row-MapEntry n row)
  unfolding Gives
  entries_row end_of-MapEntry = refl
  entries_row (more_of-MapEntry entry rest) = ap (λ (x : List EntryMeaning). meaning order entry ∷ x) (entries_row rest)

  pub entries_list : (entries : List MapEntry) → meanings order (block.hidden-the_row-MapEntry-3 entries) ≡ entries_mean order entries
  entries_list entries = entries_row (block.hidden-the_row-MapEntry-3 entries) ∙ ap (entries_mean order) (block.items_hidden-the_row-MapEntry-3 entries)

  map_tables_apart : (entries : List MapEntry) → Kept (demands (k.Map entries)) → TablesApart (entries_mean order entries)
  unfolding demands
  map_tables_apart entries c =
      let row = block.hidden-the_row-MapEntry-3 entries in
      let keys = kept_both (keys_demanded row) (behind_tables row ++ entries_demand row) c in
      let own = kept_both (behind_tables row) (entries_demand row) keys.1 in
      subst TablesApart (entries_list entries) (kept_tables_apart order row (kept_entries_differ row own.1) own.0)

  pub tables_apart_by_rules : (shape : Shape) (entries : List MapEntry) → shape.kind ≡ k.Map entries → KeepsRules shape → TablesApart (entries_mean order entries)
  tables_apart_by_rules shape entries e c = map_tables_apart entries (subst (λ (kind : Kind). Kept (demands kind)) e c)
