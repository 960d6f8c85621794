-- What shapes, parts and entries demand, by the lists that they hold.
use Rattle.std.specs.Prelude.{◌≡◌, ◌↔◌, ℕ, ◌≤◌, ◌⊎◌, false, List, [], ◌∷◌, ◌++◌}
use Rattle.ecd_core.specs.declared.shape.Kind.{Kind}
use Rattle.ecd_core.specs.declared.shape.Kind.TheVariants as k
use Rattle.ecd_core.specs.declared.shape.Shape.{Shape}
use Rattle.ecd_core.specs.declared.shape.Group.{Group}
use Rattle.ecd_core.specs.declared.shape.Part.TheVariants as p
use Rattle.ecd_core.specs.declared.shape.Way.{Way}
use Rattle.ecd_core.specs.declared.shape.MapEntry.{MapEntry}
use Rattle.ecd_core.specs.declared.shape.MapEntry.TheVariants as m
use Rattle.ecd_core.specs.declared.shape.Field.{Field}
use Rattle.ecd_core.specs.declared.shape.Table.{Table}
use Rattle.ecd_core.specs.declared.shape.Pick.{Pick, out-Pick}
use Rattle.ecd_core.specs.Lists.{Each}
use Rattle.ecd_shape_rules.specs.Starts.{AreApart}
use Rattle.ecd_shape_rules.specs.declared.rule.Rule.{Rule}
use Rattle.ecd_shape_rules.specs.declared.rule.Rule.TheVariants.{A3, A4, M5}
use Rattle.ecd_shape_rules.specs.Demands.{Demand, demand, demands, part_demands, entry_demands, entry_fields, inner_keys_demanded, IsBrokenIn}
use Rattle.ecd_shape_rules.specs.Listed.{are_emptiable, starts_of, follow_body_of, parts_demanded, ways_beside_of, groups_demanded, alternatives_demanded, shapes_demanded}
use Rattle.ecd_shape_rules.specs.ListedMaps.{fields_in_ways, keys_in_ways, keys_in_map, tables_in_map, entries_demanded, map_ways_demanded}

-- Two lists demand the same: all of the one holds where all of the other does, and a rule is broken at a place in both or in none.
abbrev pub DemandTheSame : List Demand → List Demand → Type 0
DemandTheSame demanded others =
    (Each (λ (d : Demand). d.holds) demanded ↔ Each (λ (d : Demand). d.holds) others) × ((rule : Rule) (place : ℕ) → IsBrokenIn demanded rule place ↔ IsBrokenIn others rule place)

-- What a shape demands.
pub record ShapesDemand : Type 0 where
  pub tag : (n : ℕ) (s : Shape) → DemandTheSame (demands (k.Tag n s)) (demands s.kind)
  pub any_tag : (s : Shape) → DemandTheSame (demands (k.AnyTag s)) (demands s.kind)
  pub cbor : (s : Shape) → DemandTheSame (demands (k.Cbor s)) (demands s.kind)
  pub choice : (ss : List Shape) → DemandTheSame (demands (k.Choice ss)) (alternatives_demanded ss ++ shapes_demanded ss)
  pub array : (g : Group) → DemandTheSame (demands (k.Array g)) (parts_demanded g.parts [])
  pub pairs : (entries : List MapEntry) → DemandTheSame (demands (k.Map entries)) (keys_in_map entries ++ (tables_in_map entries ++ entries_demanded entries))

-- What a part demands before what may follow it.
pub record PartsDemand : Type 0 where
  pub one : (s : Shape) (after : List Kind) → DemandTheSame (part_demands (p.One s) after) (demands s.kind)
  pub opt : (at : ℕ) (g : Group) (after : List Kind) →
      DemandTheSame (part_demands (p.Opt at g) after) (demand A3 at (are_emptiable g.parts ≡ false) ∷ demand A4 at (AreApart (starts_of g.parts) after) ∷ parts_demanded g.parts after)
  pub many : (at lo hi : ℕ) (g : Group) (after : List Kind) →
      DemandTheSame (part_demands (p.Many at lo hi g) after)
      (demand A3 at (are_emptiable g.parts ≡ false) ∷ demand A4 at ((lo ≡ hi) ⊎ AreApart (starts_of g.parts) after) ∷ parts_demanded g.parts (follow_body_of hi g.parts after))
  pub alt : (at : ℕ) (ways : List Way) (after : List Kind) → DemandTheSame (part_demands (p.Alt at ways) after) (ways_beside_of ways after ++ groups_demanded ways after)

-- What an entry demands, alone and by its keys, and its fields.
pub record EntriesDemand : Type 0 where
  pub field : (f : Field) → DemandTheSame (entry_demands (m.Field f)) (demand M5 f.at (f.lo ≤ 1) ∷ (demands f.key.kind ++ demands f.value.kind))
  pub pick : (pick : Pick) → DemandTheSame (entry_demands (m.Pick pick)) (map_ways_demanded (out-Pick pick).ways)
  pub table : (t : Table) → DemandTheSame (entry_demands (m.Table t)) (demands t.key.kind ++ demands t.value.kind)
  pub field_keys : (f : Field) → DemandTheSame (inner_keys_demanded (m.Field f)) []
  pub pick_keys : (pick : Pick) → DemandTheSame (inner_keys_demanded (m.Pick pick)) (keys_in_ways (out-Pick pick).ways)
  pub table_keys : (t : Table) → DemandTheSame (inner_keys_demanded (m.Table t)) []
  pub field_fields : (f : Field) → entry_fields (m.Field f) ≡ record { at = f.at; key = f.key.kind; kind = f.value.kind } ∷ []
  pub pick_fields : (pick : Pick) → entry_fields (m.Pick pick) ≡ fields_in_ways (out-Pick pick).ways
  pub table_fields : (t : Table) → entry_fields (m.Table t) ≡ []
