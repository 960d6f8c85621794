-- What the entries of a map demand, over the lists of the source, by which the crates above cite it.
use Rattle.std.specs.Prelude.{◌≡◌, ◌⊎◌, List, [], ◌∷◌, ◌++◌}
use Rattle.ecd_core.specs.declared.shape.Kind.{Kind}
use Rattle.ecd_core.specs.declared.shape.MapEntry.{MapEntry, Field', Table'}
use Rattle.ecd_core.specs.declared.shape.MapEntry.TheVariants as m
use Rattle.ecd_core.specs.declared.shape.MapWay.{MapWay}
use Rattle.ecd_apart.specs.Apart.{Apart}
use Rattle.ecd_shape_rules.specs.declared.rule.Rule.TheVariants.{M2, M4, M5}
use Rattle.ecd_shape_rules.specs.Demands.{Demand, demand, KeyedField, entry_fields, between, in_pairs, other_key, other_key_or_value, inner_keys_demanded, fields_apart, pick_place, entry_demands}

-- ---- fields

abbrev pub fields_in : List MapEntry → List KeyedField
fields_in [] = []
fields_in (Field' at _ key cut lo _ kind ∷ rest) = record { at = at; key = key; kind = kind } ∷ fields_in rest
fields_in (m.Pick pick ∷ rest) = fields_in rest
fields_in (Table' at lo hi _ key _ kind ∷ rest) = fields_in rest

abbrev pub fields_in_ways : List MapWay → List KeyedField
fields_in_ways [] = []
fields_in_ways (way ∷ ways) = fields_in way.entries ++ fields_in_ways ways

abbrev pub fields_in_map : List MapEntry → List KeyedField
fields_in_map [] = []
fields_in_map (entry ∷ entries) = entry_fields entry ++ fields_in_map entries

-- ---- M1 to M3

abbrev pub keys_in_ways : List MapWay → List Demand
keys_in_ways [] = []
keys_in_ways (way ∷ ways) = in_pairs other_key (fields_in way.entries) ++ (between other_key_or_value (fields_in way.entries) (fields_in_ways ways) ++ keys_in_ways ways)

abbrev pub keys_in_map : List MapEntry → List Demand
keys_in_map [] = []
keys_in_map (entry ∷ entries) = inner_keys_demanded entry ++ (between other_key (entry_fields entry) (fields_in_map entries) ++ keys_in_map entries)

abbrev pub tables_behind : Kind → List MapEntry → List Demand
tables_behind key [] = []
tables_behind key (Field' at _ other cut lo _ kind ∷ rest) = tables_behind key rest
tables_behind key (m.Pick pick ∷ rest) = tables_behind key rest
tables_behind key (Table' at lo hi _ other _ kind ∷ rest) = demand M2 at (Apart key other) ∷ tables_behind key rest

abbrev pub tables_in_map : List MapEntry → List Demand
tables_in_map [] = []
tables_in_map (Field' at _ key cut lo _ kind ∷ rest) = tables_in_map rest
tables_in_map (m.Pick pick ∷ rest) = tables_in_map rest
tables_in_map (Table' at lo hi _ key _ kind ∷ rest) = tables_behind key rest ++ (fields_apart key (fields_in_map rest) ++ tables_in_map rest)

-- ---- M4 and M5, and all that stands inside

abbrev pub NeedsOneOf : List MapEntry → Type 0
NeedsOneOf [] = ⊥
NeedsOneOf (Field' at _ key cut lo _ kind ∷ rest) = (lo ≡ 1) ⊎ NeedsOneOf rest
NeedsOneOf (m.Pick pick ∷ rest) = NeedsOneOf rest
NeedsOneOf (Table' at lo hi _ key _ kind ∷ rest) = NeedsOneOf rest

abbrev pub fields_alone_in : List MapEntry → List Demand
fields_alone_in [] = []
fields_alone_in (Field' at _ key cut lo _ kind ∷ rest) = fields_alone_in rest
fields_alone_in (m.Pick pick ∷ rest) = demand M5 (pick_place pick) ⊥ ∷ fields_alone_in rest
fields_alone_in (Table' at lo hi _ key _ kind ∷ rest) = demand M5 at ⊥ ∷ fields_alone_in rest

abbrev pub entries_demanded : List MapEntry → List Demand
entries_demanded [] = []
entries_demanded (entry ∷ entries) = entry_demands entry ++ entries_demanded entries

abbrev pub map_ways_demanded : List MapWay → List Demand
map_ways_demanded [] = []
map_ways_demanded (way ∷ ways) = demand M4 way.at (NeedsOneOf way.entries) ∷ (fields_alone_in way.entries ++ (entries_demanded way.entries ++ map_ways_demanded ways))
