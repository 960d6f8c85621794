-- What maps and their entries demand, over the lists of the source: one equation for each entry.
use Rattle.std.proofs.Common.{◌≡◌, ◌⊎◌, ◌≤◌, List, [], ◌∷◌, ◌++◌, refl, ap, sym, ◌∙◌}
use mathlib.Core.Former.{Count}
use Rattle.ecd_core.specs.declared.shape.Kind.{Kind, Row_of-MapEntry, end_of-MapEntry, more_of-MapEntry, items-the_row-MapEntry}
use Rattle.ecd_core.specs.declared.shape.Kind.TheVariants as k
use Rattle.ecd_core.specs.declared.shape.Kind.TheBlock as block
use Rattle.ecd_core.specs.declared.shape.MapEntry.{MapEntry, Field', Table'}
use Rattle.ecd_core.specs.declared.shape.MapEntry.TheVariants as m
use Rattle.ecd_core.specs.declared.shape.Field.{Field}
use Rattle.ecd_core.specs.declared.shape.Table.{Table}
use Rattle.ecd_core.specs.declared.shape.Pick.{Pick, Pick', Row_of-MapWay, end_of-MapWay, more_of-MapWay, items-the_row-MapWay, out-Pick}
use Rattle.ecd_core.proofs.Layers.{entries-shown, pick-out}
use Rattle.ecd_apart.specs.Apart.{Apart}
use Rattle.ecd_shape_rules.specs.declared.rule.Rule.TheVariants.{M2, M4, M5}
use Rattle.ecd_shape_rules.specs.Demands.{Demand, demand, KeyedField, fields_of, way_fields, entry_fields, map_fields, between, in_pairs, other_key, other_key_or_value, ways_keys_demanded, inner_keys_demanded, keys_demanded, tables_apart, fields_apart, behind_tables, HasNeededField, pick_place, fields_alone, demands, entries_demand, entry_demands, map_ways_demand}
use Rattle.ecd_shape_rules.specs.ListedMaps.{fields_in, fields_in_ways, fields_in_map, keys_in_ways, keys_in_map, tables_behind, tables_in_map, NeedsOneOf, fields_alone_in, entries_demanded, map_ways_demanded}

-- ---- fields

fields-row : {n : Count} (row : Row_of-MapEntry n) → fields_of row ≡ fields_in (items-the_row-MapEntry n row)
fields-row end_of-MapEntry = refl
fields-row (more_of-MapEntry (Field' at _ key cut lo _ kind) rest) = ap (λ (l : List KeyedField). record { at = at; key = key; kind = kind } ∷ l) (fields-row rest)
fields-row (more_of-MapEntry (m.Pick pick) rest) = fields-row rest
fields-row (more_of-MapEntry (Table' at lo hi _ key _ kind) rest) = fields-row rest

fields-shown : (s : List (Unit {0})) (row : Row_of-MapEntry _) → fields_of row ≡ fields_in (block.shown-the_row-MapEntry-3 s row)
fields-shown s row = fields-row row ∙ ap fields_in (sym (entries-shown s row))

way_fields-row : {n : Count} (row : Row_of-MapWay n) → way_fields row ≡ fields_in_ways (items-the_row-MapWay n row)
way_fields-row end_of-MapWay = refl
way_fields-row (more_of-MapWay at s entries rest) = let a = fields-shown s entries in let b = way_fields-row rest in λ j. a j ++ b j

map_fields-row : {n : Count} (row : Row_of-MapEntry n) → map_fields row ≡ fields_in_map (items-the_row-MapEntry n row)
map_fields-row end_of-MapEntry = refl
map_fields-row (more_of-MapEntry entry rest) = ap (λ (l : List KeyedField). entry_fields entry ++ l) (map_fields-row rest)

pub entry_fields-Field : (f : Field) → entry_fields (m.Field f) ≡ record { at = f.at; key = f.key.kind; kind = f.value.kind } ∷ []
entry_fields-Field f = refl

pub entry_fields-Pick : (pick : Pick) → entry_fields (m.Pick pick) ≡ fields_in_ways (out-Pick pick).ways
entry_fields-Pick (Pick' at needed s ways) = way_fields-row ways ∙ sym (ap (λ x. fields_in_ways x.ways) (pick-out at needed s ways))

pub entry_fields-Table : (t : Table) → entry_fields (m.Table t) ≡ []
entry_fields-Table t = refl

-- ---- M1 to M3

ways_keys-row : {n : Count} (row : Row_of-MapWay n) → ways_keys_demanded row ≡ keys_in_ways (items-the_row-MapWay n row)
ways_keys-row end_of-MapWay = refl
ways_keys-row (more_of-MapWay at s entries rest) =
    let a = fields-shown s entries in
    let b = way_fields-row rest in
    let c = ways_keys-row rest in
    λ j. in_pairs other_key (a j) ++ (between other_key_or_value (a j) (b j) ++ c j)

pub inner_keys-Field : (f : Field) → inner_keys_demanded (m.Field f) ≡ []
inner_keys-Field f = refl

pub inner_keys-Pick : (pick : Pick) → inner_keys_demanded (m.Pick pick) ≡ keys_in_ways (out-Pick pick).ways
inner_keys-Pick (Pick' at needed s ways) = ways_keys-row ways ∙ sym (ap (λ x. keys_in_ways x.ways) (pick-out at needed s ways))

pub inner_keys-Table : (t : Table) → inner_keys_demanded (m.Table t) ≡ []
inner_keys-Table t = refl

keys-row : {n : Count} (row : Row_of-MapEntry n) → keys_demanded row ≡ keys_in_map (items-the_row-MapEntry n row)
keys-row end_of-MapEntry = refl
keys-row (more_of-MapEntry entry rest) =
    let a = map_fields-row rest in
    let b = keys-row rest in
    λ j. inner_keys_demanded entry ++ (between other_key (entry_fields entry) (a j) ++ b j)

tables-row : (key : Kind) {n : Count} (row : Row_of-MapEntry n) → tables_apart key row ≡ tables_behind key (items-the_row-MapEntry n row)
tables-row key end_of-MapEntry = refl
tables-row key (more_of-MapEntry (Field' at _ other cut lo _ kind) rest) = tables-row key rest
tables-row key (more_of-MapEntry (m.Pick pick) rest) = tables-row key rest
tables-row key (more_of-MapEntry (Table' at lo hi _ other _ kind) rest) = ap (λ (l : List Demand). demand M2 at (Apart key other) ∷ l) (tables-row key rest)

behind-row : {n : Count} (row : Row_of-MapEntry n) → behind_tables row ≡ tables_in_map (items-the_row-MapEntry n row)
behind-row end_of-MapEntry = refl
behind-row (more_of-MapEntry (Field' at _ key cut lo _ kind) rest) = behind-row rest
behind-row (more_of-MapEntry (m.Pick pick) rest) = behind-row rest
behind-row (more_of-MapEntry (Table' at lo hi _ key _ kind) rest) =
    let a = tables-row key rest in
    let b = map_fields-row rest in
    let c = behind-row rest in
    λ j. a j ++ (fields_apart key (b j) ++ c j)

-- ---- M4 and M5, and all that stands inside

needed-row : {n : Count} (row : Row_of-MapEntry n) → HasNeededField row ≡ NeedsOneOf (items-the_row-MapEntry n row)
needed-row end_of-MapEntry = refl
needed-row (more_of-MapEntry (Field' at _ key cut lo _ kind) rest) = ap (λ (X : Type 0). (lo ≡ 1) ⊎ X) (needed-row rest)
needed-row (more_of-MapEntry (m.Pick pick) rest) = needed-row rest
needed-row (more_of-MapEntry (Table' at lo hi _ key _ kind) rest) = needed-row rest

alone-row : {n : Count} (row : Row_of-MapEntry n) → fields_alone row ≡ fields_alone_in (items-the_row-MapEntry n row)
alone-row end_of-MapEntry = refl
alone-row (more_of-MapEntry (Field' at _ key cut lo _ kind) rest) = alone-row rest
alone-row (more_of-MapEntry (m.Pick pick) rest) = ap (λ (l : List Demand). demand M5 (pick_place pick) ⊥ ∷ l) (alone-row rest)
alone-row (more_of-MapEntry (Table' at lo hi _ key _ kind) rest) = ap (λ (l : List Demand). demand M5 at ⊥ ∷ l) (alone-row rest)

entries-row : {n : Count} (row : Row_of-MapEntry n) → entries_demand row ≡ entries_demanded (items-the_row-MapEntry n row)
unfolding demands
entries-row end_of-MapEntry = refl
entries-row (more_of-MapEntry entry rest) = ap (λ (l : List Demand). entry_demands entry ++ l) (entries-row rest)

map_ways-row : {n : Count} (row : Row_of-MapWay n) → map_ways_demand row ≡ map_ways_demanded (items-the_row-MapWay n row)
unfolding demands
map_ways-row end_of-MapWay = refl
map_ways-row (more_of-MapWay at s entries rest) =
    let shown = sym (entries-shown s entries) in
    let a = needed-row entries ∙ ap NeedsOneOf shown in
    let b = alone-row entries ∙ ap fields_alone_in shown in
    let c = entries-row entries ∙ ap entries_demanded shown in
    let d = map_ways-row rest in
    λ j. demand M4 at (a j) ∷ (b j ++ (c j ++ d j))

pub entry_demands-Field : (f : Field) → entry_demands (m.Field f) ≡ demand M5 f.at (f.lo ≤ 1) ∷ (demands f.key.kind ++ demands f.value.kind)
unfolding demands
entry_demands-Field f = refl

pub entry_demands-Pick : (pick : Pick) → entry_demands (m.Pick pick) ≡ map_ways_demanded (out-Pick pick).ways
unfolding demands
entry_demands-Pick (Pick' at needed s ways) = map_ways-row ways ∙ sym (ap (λ x. map_ways_demanded x.ways) (pick-out at needed s ways))

pub entry_demands-Table : (t : Table) → entry_demands (m.Table t) ≡ demands t.key.kind ++ demands t.value.kind
unfolding demands
entry_demands-Table t = refl

pub demands-Map : (entries : List MapEntry) → demands (k.Map entries) ≡ keys_in_map entries ++ (tables_in_map entries ++ entries_demanded entries)
unfolding demands
demands-Map entries =
    let row = block.hidden-the_row-MapEntry-3 entries in
    let a = keys-row row in
    let b = behind-row row in
    let c = entries-row row in
    (λ j. a j ++ (b j ++ c j)) ∙ ap (λ (l : List MapEntry). keys_in_map l ++ (tables_in_map l ++ entries_demanded l)) (block.items_hidden-the_row-MapEntry-3 entries)
