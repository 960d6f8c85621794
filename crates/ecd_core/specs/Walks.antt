-- The walk over the lists of the source, by which the crates above cite it.
use Rattle.std.specs.Prelude.{◌≡◌, ℕ, ◌≤◌, max, List, [], ◌∷◌, ◌++◌, length, take, drop, slice_get, Some}
use Rattle.ecd_core.specs.declared.shape.Shape.{Shape}
use Rattle.ecd_core.specs.declared.shape.Part.{Part}
use Rattle.ecd_core.specs.declared.shape.Way.{Way}
use Rattle.ecd_core.specs.declared.shape.MapEntry.{MapEntry}
use Rattle.ecd_core.specs.declared.shape.MapWay.{MapWay}
use Rattle.ecd_core.specs.Nodes.{Node, ShapeNode, PartNode, WayNode, EntryNode, MapWayNode, inside_part, inside_entry, nodes, node_count, nesting}

-- The lists of all elements, one after another.
abbrev pub all_of : {A : Type 0} → (A → List Node) → List A → List Node
all_of f [] = []
all_of f (x ∷ xs) = f x ++ all_of f xs

abbrev pub part_nodes : Part → List Node
part_nodes part = PartNode part ∷ inside_part part

abbrev pub way_nodes : Way → List Node
way_nodes way = WayNode way ∷ all_of part_nodes way.body.parts

abbrev pub entry_nodes : MapEntry → List Node
entry_nodes entry = EntryNode entry ∷ inside_entry entry

abbrev pub map_way_nodes : MapWay → List Node
map_way_nodes way = MapWayNode way ∷ all_of entry_nodes way.entries

-- A node and all that lie inside it.
abbrev pub walk : Node → List Node
walk (ShapeNode shape) = nodes shape
walk (PartNode part) = part_nodes part
walk (WayNode way) = way_nodes way
walk (EntryNode entry) = entry_nodes entry
walk (MapWayNode way) = map_way_nodes way

-- The greatest of some numbers, one for each element; 0 where there is none.
abbrev pub greatest : {A : Type 0} → (A → ℕ) → List A → ℕ
greatest f [] = 0
greatest f (x ∷ xs) = max (f x) (greatest f xs)

-- Behind a node stand those that lie inside it, and then the others: its nodes have numbers in a row.
abbrev pub StandTogether : Type 0
StandTogether = (shape : Shape) (number : ℕ) (node : Node) → slice_get (nodes shape) number ≡ Some node → take (length (walk node)) (drop number (nodes shape)) ≡ walk node

-- Nodes inside each other are nodes.
abbrev pub NestNoDeeper : Type 0
NestNoDeeper = (shape : Shape) → nesting shape ≤ node_count shape
