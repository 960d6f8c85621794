-- The nodes of a shape: every shape, part, way, map entry and way of a pick in it, keys of fields and tables included.
use Rattle.std.specs.Prelude.{ℕ, ◌+◌, max, List, [], ◌∷◌, ◌++◌, length}
use Rattle.ecd_core.specs.declared.shape.Kind.{Kind, Choice', Tag', Cbor', AnyTag', Array', Map', Row_of-Shape, end_of-Shape, more_of-Shape, Row_of-MapEntry, end_of-MapEntry, more_of-MapEntry, items-the_row-MapEntry}
use Rattle.ecd_core.specs.declared.shape.Kind.TheVariants as k
use Rattle.ecd_core.specs.declared.shape.Shape.{Shape}
use Rattle.ecd_core.specs.declared.shape.Group.{Row_of-Part, end_of-Part, more_of-Part, items-the_row-Part}
use Rattle.ecd_core.specs.declared.shape.Part.{Part, One', Opt', Many', Alt', Row_of-Way, end_of-Way, more_of-Way}
use Rattle.ecd_core.specs.declared.shape.Way.{Way}
use Rattle.ecd_core.specs.declared.shape.MapEntry.{MapEntry, Field', Table'}
use Rattle.ecd_core.specs.declared.shape.MapEntry.TheVariants as m
use Rattle.ecd_core.specs.declared.shape.Pick.{Pick, Pick', Row_of-MapWay, end_of-MapWay, more_of-MapWay}
use Rattle.ecd_core.specs.declared.shape.MapWay.{MapWay}

pub data Node : Type 0 where
  ShapeNode : Shape → Node
  PartNode : Part → Node
  WayNode : Way → Node
  EntryNode : MapEntry → Node
  MapWayNode : MapWay → Node

-- A shape at a place.
abbrev pub shape_at : ℕ → Kind → Shape
shape_at at kind = record { at = at; kind = kind }

-- The nodes inside a node, in the order of a walk that meets a node before its parts, and parts from left to right.
unfoldable mutual
  pub inside : Kind → List Node
  inside (k.Uint lo hi) = []
  inside (k.Nint lo hi) = []
  inside (k.Bytes lo hi) = []
  inside (k.Text lo hi) = []
  inside (k.BytesIs bytes) = []
  inside (k.TextIs bytes) = []
  inside (k.Simple n) = []
  inside (Tag' n _ inner) = shapes_nodes inner
  inside (AnyTag' _ inner) = shapes_nodes inner
  inside (k.Any depth) = []
  inside (k.AnyOf major depth) = []
  inside (Cbor' _ inner) = shapes_nodes inner
  inside (Choice' _ shapes) = shapes_nodes shapes
  inside (Array' _ parts) = parts_nodes parts
  inside (Map' _ entries) = entries_nodes entries

  pub shapes_nodes : {m : _} → Row_of-Shape m → List Node
  shapes_nodes end_of-Shape = []
  shapes_nodes (more_of-Shape at kind rest) = ShapeNode (shape_at at kind) ∷ (inside kind ++ shapes_nodes rest)

  pub parts_nodes : {m : _} → Row_of-Part m → List Node
  parts_nodes end_of-Part = []
  parts_nodes (more_of-Part part rest) = PartNode part ∷ (inside_part part ++ parts_nodes rest)

  pub inside_part : Part → List Node
  inside_part (One' at kind) = ShapeNode (shape_at at kind) ∷ inside kind
  inside_part (Opt' at _ body) = parts_nodes body
  inside_part (Many' at lo hi _ body) = parts_nodes body
  inside_part (Alt' at _ ways) = ways_nodes ways

  pub ways_nodes : {m : _} → Row_of-Way m → List Node
  ways_nodes end_of-Way = []
  ways_nodes (more_of-Way at _ body rest) = WayNode (record { at = at; body = record { parts = items-the_row-Part _ body } }) ∷ (parts_nodes body ++ ways_nodes rest)

  pub entries_nodes : {m : _} → Row_of-MapEntry m → List Node
  entries_nodes end_of-MapEntry = []
  entries_nodes (more_of-MapEntry entry rest) = EntryNode entry ∷ (inside_entry entry ++ entries_nodes rest)

  pub inside_entry : MapEntry → List Node
  inside_entry (Field' at key_at key cut lo value_at value) = ShapeNode (shape_at key_at key) ∷ (inside key ++ ShapeNode (shape_at value_at value) ∷ inside value)
  inside_entry (m.Pick pick) = inside_pick pick
  inside_entry (Table' at lo hi key_at key value_at value) = ShapeNode (shape_at key_at key) ∷ (inside key ++ ShapeNode (shape_at value_at value) ∷ inside value)

  pub inside_pick : Pick → List Node
  inside_pick (Pick' at needed _ ways) = map_ways_nodes ways

  pub map_ways_nodes : {m : _} → Row_of-MapWay m → List Node
  map_ways_nodes end_of-MapWay = []
  map_ways_nodes (more_of-MapWay at _ entries rest) = MapWayNode (record { at = at; entries = items-the_row-MapEntry _ entries }) ∷ (entries_nodes entries ++ map_ways_nodes rest)

-- All nodes of a shape, itself first: a node's number, from 0, is its place in this list.
abbrev pub nodes : Shape → List Node
nodes shape = ShapeNode shape ∷ inside shape.kind

abbrev pub node_count : Shape → ℕ
node_count shape = length (nodes shape)

-- The most nodes inside each other that lie inside a node.
unfoldable mutual
  pub nesting_in : Kind → ℕ
  nesting_in (k.Uint lo hi) = 0
  nesting_in (k.Nint lo hi) = 0
  nesting_in (k.Bytes lo hi) = 0
  nesting_in (k.Text lo hi) = 0
  nesting_in (k.BytesIs bytes) = 0
  nesting_in (k.TextIs bytes) = 0
  nesting_in (k.Simple n) = 0
  nesting_in (Tag' n _ inner) = shapes_nesting inner
  nesting_in (AnyTag' _ inner) = shapes_nesting inner
  nesting_in (k.Any depth) = 0
  nesting_in (k.AnyOf major depth) = 0
  nesting_in (Cbor' _ inner) = shapes_nesting inner
  nesting_in (Choice' _ shapes) = shapes_nesting shapes
  nesting_in (Array' _ parts) = parts_nesting parts
  nesting_in (Map' _ entries) = entries_nesting entries

  pub shapes_nesting : {m : _} → Row_of-Shape m → ℕ
  shapes_nesting end_of-Shape = 0
  shapes_nesting (more_of-Shape at kind rest) = max (nesting_in kind + 1) (shapes_nesting rest)

  pub parts_nesting : {m : _} → Row_of-Part m → ℕ
  parts_nesting end_of-Part = 0
  parts_nesting (more_of-Part part rest) = max (nesting_in_part part + 1) (parts_nesting rest)

  pub nesting_in_part : Part → ℕ
  nesting_in_part (One' at kind) = nesting_in kind + 1
  nesting_in_part (Opt' at _ body) = parts_nesting body
  nesting_in_part (Many' at lo hi _ body) = parts_nesting body
  nesting_in_part (Alt' at _ ways) = ways_nesting ways

  pub ways_nesting : {m : _} → Row_of-Way m → ℕ
  ways_nesting end_of-Way = 0
  ways_nesting (more_of-Way at _ body rest) = max (parts_nesting body + 1) (ways_nesting rest)

  pub entries_nesting : {m : _} → Row_of-MapEntry m → ℕ
  entries_nesting end_of-MapEntry = 0
  entries_nesting (more_of-MapEntry entry rest) = max (nesting_in_entry entry + 1) (entries_nesting rest)

  pub nesting_in_entry : MapEntry → ℕ
  nesting_in_entry (Field' at _ key cut lo _ value) = max (nesting_in key + 1) (nesting_in value + 1)
  nesting_in_entry (m.Pick pick) = nesting_in_pick pick
  nesting_in_entry (Table' at lo hi _ key _ value) = max (nesting_in key + 1) (nesting_in value + 1)

  pub nesting_in_pick : Pick → ℕ
  nesting_in_pick (Pick' at needed _ ways) = map_ways_nesting ways

  pub map_ways_nesting : {m : _} → Row_of-MapWay m → ℕ
  map_ways_nesting end_of-MapWay = 0
  map_ways_nesting (more_of-MapWay at _ entries rest) = max (entries_nesting entries + 1) (map_ways_nesting rest)

-- The most nodes of a shape that lie inside each other, itself among them.
abbrev pub nesting : Shape → ℕ
nesting shape = nesting_in shape.kind + 1
