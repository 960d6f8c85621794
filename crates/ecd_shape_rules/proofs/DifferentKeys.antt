-- Where the rules are kept, the fields of each map that may be taken at once have different keys.
use Rattle.std.proofs.Common.{◌≡◌, List, [], ◌∷◌, ◌++◌, refl, ap, ◌∙◌, subst}
use Rattle.ecd_core.specs.declared.shape.Kind.{Kind, Choice', Tag', Cbor', AnyTag', Array', Map', Row_of-Shape, end_of-Shape, more_of-Shape, Row_of-MapEntry, end_of-MapEntry, more_of-MapEntry}
use Rattle.ecd_core.specs.declared.shape.Group.{Row_of-Part, end_of-Part, more_of-Part}
use Rattle.ecd_core.specs.declared.shape.Part.{Part, One', Opt', Many', Alt', Row_of-Way, end_of-Way, more_of-Way}
use Rattle.ecd_core.specs.declared.shape.MapEntry.{MapEntry, Field', Table'}
use Rattle.ecd_core.specs.declared.shape.MapEntry.TheVariants as m
use Rattle.ecd_core.specs.declared.shape.Pick.{Pick, Pick', Row_of-MapWay, end_of-MapWay, more_of-MapWay}
use Rattle.ecd_core.specs.Lists.{Each}
use Rattle.ecd_apart.specs.Keys.{IsSameKey, field_keys, way_keys, pick_keys, entry_keys, all_keys, ShareNoKey, AreDifferent, WaysDiffer, PickDiffers, EntryDiffers, FieldsDiffer, KeysDiffer, ShapesDiffer, PartsDiffer, PartDiffers, GroupsDiffer, EntriesDiffer, EntryInside, PickInside, MapWaysInside}
use Rattle.ecd_shape_rules.specs.Starts.{follow, follow_body}
use Rattle.ecd_shape_rules.specs.Demands.{KeyedField, fields_of, way_fields, pick_fields, entry_fields, map_fields, beside, between, in_pairs, other_key, other_key_or_value, ways_keys_demanded, pick_keys_demanded, inner_keys_demanded, keys_demanded, behind_tables, alternatives_apart, ways_beside, fields_alone, demands, shapes_demand, parts_demand, part_demands, groups_demand, entries_demand, entry_demands, pick_demands, map_ways_demand}
use Rattle.ecd_shape_rules.specs.Laws.{KeepingHasDifferentKeys}
use Rattle.ecd_shape_rules.proofs.Kept.{Kept, kept_both}

-- ---- the keys of fields

keys_of : List KeyedField → List Kind
keys_of [] = []
keys_of (field ∷ fields) = field.key ∷ keys_of fields

keys_of_both : (xs ys : List KeyedField) → keys_of (xs ++ ys) ≡ keys_of xs ++ keys_of ys
unfolding keys_of
keys_of_both [] ys = refl
keys_of_both (x ∷ xs) ys = ap (λ (l : List Kind). x.key ∷ l) (keys_of_both xs ys)

fields_keys : {n : _} (row : Row_of-MapEntry n) → keys_of (fields_of row) ≡ field_keys row
unfolding keys_of field_keys
fields_keys end_of-MapEntry = refl
fields_keys (more_of-MapEntry (Field' at _ key cut lo _ kind) rest) = ap (λ (l : List Kind). key ∷ l) (fields_keys rest)
fields_keys (more_of-MapEntry (m.Pick pick) rest) = fields_keys rest
fields_keys (more_of-MapEntry (Table' at lo hi _ key _ kind) rest) = fields_keys rest

ways_fields_keys : {n : _} (row : Row_of-MapWay n) → keys_of (way_fields row) ≡ way_keys row
unfolding keys_of way_keys
ways_fields_keys end_of-MapWay = refl
ways_fields_keys (more_of-MapWay at _ entries rest) =
    let a = fields_keys entries in
    let b = ways_fields_keys rest in
    keys_of_both (fields_of entries) (way_fields rest) ∙ (λ i. a i ++ b i)

pick_fields_keys : (pick : Pick) → keys_of (pick_fields pick) ≡ pick_keys pick
unfolding pick_keys
pick_fields_keys (Pick' at needed _ ways) = ways_fields_keys ways

entry_fields_keys : (entry : MapEntry) → keys_of (entry_fields entry) ≡ entry_keys entry
unfolding keys_of entry_keys
entry_fields_keys (Field' at _ key cut lo _ kind) = refl
entry_fields_keys (m.Pick pick) = pick_fields_keys pick
entry_fields_keys (Table' at lo hi _ key _ kind) = refl

map_fields_keys : {n : _} (row : Row_of-MapEntry n) → keys_of (map_fields row) ≡ all_keys row
unfolding keys_of all_keys
map_fields_keys end_of-MapEntry = refl
map_fields_keys (more_of-MapEntry entry rest) =
    let a = entry_fields_keys entry in
    let b = map_fields_keys rest in
    keys_of_both (entry_fields entry) (map_fields rest) ∙ (λ i. a i ++ b i)

-- ---- M1

beside_shares : (x : KeyedField) (ys : List KeyedField) → Kept (beside other_key x ys) → Each (λ (other : Kind). IsSameKey x.key other → ⊥) (keys_of ys)
unfolding keys_of
beside_shares x [] h = tt
beside_shares x (y ∷ ys) h = (h.0, beside_shares x ys h.1)

between_share : (xs ys : List KeyedField) → Kept (between other_key xs ys) → ShareNoKey (keys_of xs) (keys_of ys)
unfolding keys_of
between_share [] ys h = tt
between_share (x ∷ xs) ys h = let both = kept_both (beside other_key x ys) (between other_key xs ys) h in (beside_shares x ys both.0, between_share xs ys both.1)

pairs_differ : (xs : List KeyedField) → Kept (in_pairs other_key xs) → AreDifferent (keys_of xs)
unfolding keys_of
pairs_differ [] h = tt
pairs_differ (x ∷ xs) h = let both = kept_both (beside other_key x xs) (in_pairs other_key xs) h in ((beside_shares x xs both.0, tt), pairs_differ xs both.1)

ways_differ : {n : _} (row : Row_of-MapWay n) → Kept (ways_keys_demanded row) → WaysDiffer row
unfolding WaysDiffer
ways_differ end_of-MapWay h = tt
ways_differ (more_of-MapWay at _ entries rest) h =
    let own = kept_both (in_pairs other_key (fields_of entries)) (between other_key_or_value (fields_of entries) (way_fields rest) ++ ways_keys_demanded rest) h in
    let others = kept_both (between other_key_or_value (fields_of entries) (way_fields rest)) (ways_keys_demanded rest) own.1 in
    (subst AreDifferent (fields_keys entries) (pairs_differ (fields_of entries) own.0), ways_differ rest others.1)

pick_differs : (pick : Pick) → Kept (pick_keys_demanded pick) → PickDiffers pick
unfolding PickDiffers
pick_differs (Pick' at needed _ ways) h = ways_differ ways h

entry_differs : (entry : MapEntry) → Kept (inner_keys_demanded entry) → EntryDiffers entry
unfolding EntryDiffers
entry_differs (Field' at _ key cut lo _ kind) h = tt
entry_differs (m.Pick pick) h = pick_differs pick h
entry_differs (Table' at lo hi _ key _ kind) h = tt

fields_differ : {n : _} (row : Row_of-MapEntry n) → Kept (keys_demanded row) → FieldsDiffer row
unfolding FieldsDiffer
fields_differ end_of-MapEntry h = tt
fields_differ (more_of-MapEntry entry rest) h =
    let own = kept_both (inner_keys_demanded entry) (between other_key (entry_fields entry) (map_fields rest) ++ keys_demanded rest) h in
    let others = kept_both (between other_key (entry_fields entry) (map_fields rest)) (keys_demanded rest) own.1 in
    let shared = between_share (entry_fields entry) (map_fields rest) others.0 in
    let a = entry_fields_keys entry in
    let b = map_fields_keys rest in
    (entry_differs entry own.0, subst (λ (l : List Kind). ShareNoKey l (all_keys rest)) a (subst (ShareNoKey (keys_of (entry_fields entry))) b shared), fields_differ rest others.1)

-- ---- every map of a shape

mutual
  unfolding demands KeysDiffer

  pub kept_differ : (kind : Kind) → Kept (demands kind) → KeysDiffer kind
  kept_differ (Tag' n _ inner) h = kept_shapes_differ inner h
  kept_differ (AnyTag' _ inner) h = kept_shapes_differ inner h
  kept_differ (Cbor' _ inner) h = kept_shapes_differ inner h
  kept_differ (Choice' _ ways) h = kept_shapes_differ ways (kept_both (alternatives_apart ways) (shapes_demand ways) h).1
  kept_differ (Array' _ parts) h = kept_parts_differ parts [] h
  kept_differ (Map' _ entries) h =
      let keys = kept_both (keys_demanded entries) (behind_tables entries ++ entries_demand entries) h in
      let inside = kept_both (behind_tables entries) (entries_demand entries) keys.1 in
      (fields_differ entries keys.0, kept_entries_differ entries inside.1)
  kept_differ kind h = tt

  pub kept_shapes_differ : {n : _} (row : Row_of-Shape n) → Kept (shapes_demand row) → ShapesDiffer row
  kept_shapes_differ end_of-Shape h = tt
  kept_shapes_differ (more_of-Shape at kind rest) h = let both = kept_both (demands kind) (shapes_demand rest) h in (kept_differ kind both.0, kept_shapes_differ rest both.1)

  pub kept_parts_differ : {n : _} (row : Row_of-Part n) (after : List Kind) → Kept (parts_demand row after) → PartsDiffer row
  kept_parts_differ end_of-Part after h = tt
  kept_parts_differ (more_of-Part part rest) after h =
      let both = kept_both (part_demands part (follow rest after)) (parts_demand rest after) h in
      (kept_part_differs part (follow rest after) both.0, kept_parts_differ rest after both.1)

  pub kept_part_differs : (part : Part) (after : List Kind) → Kept (part_demands part after) → PartDiffers part
  kept_part_differs (One' at kind) after h = kept_differ kind h
  kept_part_differs (Opt' at _ body) after h = kept_parts_differ body after h.1.1
  kept_part_differs (Many' at lo hi _ body) after h = kept_parts_differ body (follow_body hi body after) h.1.1
  kept_part_differs (Alt' at _ ways) after h = kept_groups_differ ways after (kept_both (ways_beside ways after) (groups_demand ways after) h).1

  pub kept_groups_differ : {n : _} (row : Row_of-Way n) (after : List Kind) → Kept (groups_demand row after) → GroupsDiffer row
  kept_groups_differ end_of-Way after h = tt
  kept_groups_differ (more_of-Way at _ body rest) after h =
      let both = kept_both (parts_demand body after) (groups_demand rest after) h in
      (kept_parts_differ body after both.0, kept_groups_differ rest after both.1)

  pub kept_entries_differ : {n : _} (row : Row_of-MapEntry n) → Kept (entries_demand row) → EntriesDiffer row
  kept_entries_differ end_of-MapEntry h = tt
  kept_entries_differ (more_of-MapEntry entry rest) h = let both = kept_both (entry_demands entry) (entries_demand rest) h in (kept_entry_differs entry both.0, kept_entries_differ rest both.1)

  pub kept_entry_differs : (entry : MapEntry) → Kept (entry_demands entry) → EntryInside entry
  kept_entry_differs (Field' at _ key cut lo _ kind) h = let both = kept_both (demands key) (demands kind) h.1 in (kept_differ key both.0, kept_differ kind both.1)
  kept_entry_differs (m.Pick pick) h = kept_pick_differs pick h
  kept_entry_differs (Table' at lo hi _ key _ kind) h = let both = kept_both (demands key) (demands kind) h in (kept_differ key both.0, kept_differ kind both.1)

  pub kept_pick_differs : (pick : Pick) → Kept (pick_demands pick) → PickInside pick
  kept_pick_differs (Pick' at needed _ ways) h = kept_map_ways_differ ways h

  pub kept_map_ways_differ : {n : _} (row : Row_of-MapWay n) → Kept (map_ways_demand row) → MapWaysInside row
  kept_map_ways_differ end_of-MapWay h = tt
  kept_map_ways_differ (more_of-MapWay at _ entries rest) h =
      let own = kept_both (fields_alone entries) (entries_demand entries ++ map_ways_demand rest) h.1 in
      let others = kept_both (entries_demand entries) (map_ways_demand rest) own.1 in
      (kept_entries_differ entries others.0, kept_map_ways_differ rest others.1)

pub keeping_has_different_keys : KeepingHasDifferentKeys
keeping_has_different_keys shape h = kept_differ shape.kind h
