-- The walk and the nesting by cases, over the lists of the source, and the laws of the walk.
use Rattle.std.proofs.Common.{◌≡◌, ℕ, ◌+◌, max, List, ◌∷◌, ◌++◌, refl, ap, sym, ◌∙◌, arith, append-nil}
use mathlib.Core.Former.{Count}
use denote.Hole.Carrier.{hidden}
use Rattle.ecd_core.specs.declared.shape.Kind.{Row_of-Shape, end_of-Shape, more_of-Shape, Row_of-MapEntry, end_of-MapEntry, more_of-MapEntry, items-the_row-Shape, items-the_row-MapEntry}
use Rattle.ecd_core.specs.declared.shape.Kind.TheVariants as k
use Rattle.ecd_core.specs.declared.shape.Kind.TheBlock as block
use Rattle.ecd_core.specs.declared.shape.Shape.{Shape}
use Rattle.ecd_core.specs.declared.shape.Group.{Group, Row_of-Part, end_of-Part, more_of-Part, items-the_row-Part}
use Rattle.ecd_core.specs.declared.shape.Part.{Part, Row_of-Way, end_of-Way, more_of-Way, items-the_row-Way}
use Rattle.ecd_core.specs.declared.shape.Part.TheVariants as p
use Rattle.ecd_core.specs.declared.shape.Way.{Way}
use Rattle.ecd_core.specs.declared.shape.MapEntry.{MapEntry}
use Rattle.ecd_core.specs.declared.shape.MapEntry.TheVariants as m
use Rattle.ecd_core.specs.declared.shape.Field.{Field}
use Rattle.ecd_core.specs.declared.shape.Table.{Table}
use Rattle.ecd_core.specs.declared.shape.Pick.{Pick, Pick', Row_of-MapWay, end_of-MapWay, more_of-MapWay, items-the_row-MapWay, out-Pick}
use Rattle.ecd_core.specs.declared.shape.MapWay.{MapWay}
use Rattle.ecd_core.specs.Nodes.{Node, ShapeNode, PartNode, WayNode, EntryNode, MapWayNode, shape_at, inside, shapes_nodes, parts_nodes, inside_part, ways_nodes, entries_nodes, inside_entry, map_ways_nodes, nodes, nesting_in, shapes_nesting, parts_nesting, nesting_in_part, ways_nesting, entries_nesting, nesting_in_entry, map_ways_nesting, nesting}
use Rattle.ecd_core.specs.Walks.{all_of, part_nodes, way_nodes, entry_nodes, map_way_nodes, greatest}
use Rattle.ecd_core.proofs.Layers.{parts-shown, entries-shown, pick-out}

-- ---- rows are lists

shapes-walk : {n : Count} (row : Row_of-Shape n) → shapes_nodes row ≡ all_of nodes (items-the_row-Shape n row)
unfolding inside
shapes-walk end_of-Shape = refl
shapes-walk (more_of-Shape at kind rest) = ap (λ (x : List Node). ShapeNode (shape_at at kind) ∷ (inside kind ++ x)) (shapes-walk rest)

parts-walk : {n : Count} (row : Row_of-Part n) → parts_nodes row ≡ all_of part_nodes (items-the_row-Part n row)
unfolding inside
parts-walk end_of-Part = refl
parts-walk (more_of-Part part rest) = ap (λ (x : List Node). PartNode part ∷ (inside_part part ++ x)) (parts-walk rest)

ways-walk : {n : Count} (row : Row_of-Way n) → ways_nodes row ≡ all_of way_nodes (items-the_row-Way n row)
unfolding inside
ways-walk end_of-Way = refl
ways-walk (more_of-Way at s body rest) =
    let own = parts-walk body in
    let seen = parts-shown s body in
    let others = ways-walk rest in
    ap (λ (x : List Node). WayNode (record { at = at; body = record { parts = items-the_row-Part _ body } }) ∷ x) (λ j. own j ++ others j)
    ∙ ap (λ (x : List Part). way_nodes (record { at = at; body = record { parts = x } }) ++ all_of way_nodes (items-the_row-Way _ rest)) (sym seen)

entries-walk : {n : Count} (row : Row_of-MapEntry n) → entries_nodes row ≡ all_of entry_nodes (items-the_row-MapEntry n row)
unfolding inside
entries-walk end_of-MapEntry = refl
entries-walk (more_of-MapEntry entry rest) = ap (λ (x : List Node). EntryNode entry ∷ (inside_entry entry ++ x)) (entries-walk rest)

map_ways-walk : {n : Count} (row : Row_of-MapWay n) → map_ways_nodes row ≡ all_of map_way_nodes (items-the_row-MapWay n row)
unfolding inside
map_ways-walk end_of-MapWay = refl
map_ways-walk (more_of-MapWay at s entries rest) =
    let own = entries-walk entries in
    let seen = entries-shown s entries in
    let others = map_ways-walk rest in
    ap (λ (x : List Node). MapWayNode (record { at = at; entries = items-the_row-MapEntry _ entries }) ∷ x) (λ j. own j ++ others j)
    ∙ ap (λ (x : List MapEntry). map_way_nodes (record { at = at; entries = x }) ++ all_of map_way_nodes (items-the_row-MapWay _ rest)) (sym seen)

-- ---- one equation for each kind, part and entry

pub inside-Tag : (n : ℕ) (s : Shape) → inside (k.Tag n s) ≡ nodes s
unfolding inside block.hidden-the_row-Shape-0 hidden
inside-Tag n s = append-nil (nodes s)

pub inside-AnyTag : (s : Shape) → inside (k.AnyTag s) ≡ nodes s
unfolding inside block.hidden-the_row-Shape-0 hidden
inside-AnyTag s = append-nil (nodes s)

pub inside-Cbor : (s : Shape) → inside (k.Cbor s) ≡ nodes s
unfolding inside block.hidden-the_row-Shape-0 hidden
inside-Cbor s = append-nil (nodes s)

pub inside-Choice : (ss : List Shape) → inside (k.Choice ss) ≡ all_of nodes ss
unfolding inside
inside-Choice ss = shapes-walk (block.hidden-the_row-Shape-1 ss) ∙ ap (all_of nodes) (block.items_hidden-the_row-Shape-1 ss)

pub parts-inside : (parts : List Part) → parts_nodes (block.hidden-the_row-Part-2 parts) ≡ all_of part_nodes parts
parts-inside parts = parts-walk (block.hidden-the_row-Part-2 parts) ∙ ap (all_of part_nodes) (block.items_hidden-the_row-Part-2 parts)

pub inside-Array : (g : Group) → inside (k.Array g) ≡ all_of part_nodes g.parts
unfolding inside
inside-Array g = parts-inside g.parts

pub inside-Map : (entries : List MapEntry) → inside (k.Map entries) ≡ all_of entry_nodes entries
unfolding inside
inside-Map entries = entries-walk (block.hidden-the_row-MapEntry-3 entries) ∙ ap (all_of entry_nodes) (block.items_hidden-the_row-MapEntry-3 entries)

pub inside-One : (s : Shape) → inside_part (p.One s) ≡ nodes s
unfolding inside
inside-One s = refl

pub inside-Opt : (at : ℕ) (g : Group) → inside_part (p.Opt at g) ≡ all_of part_nodes g.parts
unfolding inside
inside-Opt at g = parts-inside g.parts

pub inside-Many : (at lo hi : ℕ) (g : Group) → inside_part (p.Many at lo hi g) ≡ all_of part_nodes g.parts
unfolding inside
inside-Many at lo hi g = parts-inside g.parts

pub inside-Alt : (at : ℕ) (ways : List Way) → inside_part (p.Alt at ways) ≡ all_of way_nodes ways
unfolding inside
inside-Alt at ways = ways-walk (block.hidden-the_row-Way-4 ways) ∙ ap (all_of way_nodes) (block.items_hidden-the_row-Way-4 ways)

pub inside-Field : (f : Field) → inside_entry (m.Field f) ≡ nodes f.key ++ nodes f.value
unfolding inside
inside-Field f = refl

pub inside-Table : (t : Table) → inside_entry (m.Table t) ≡ nodes t.key ++ nodes t.value
unfolding inside
inside-Table t = refl

pub inside-Pick : (pick : Pick) → inside_entry (m.Pick pick) ≡ all_of map_way_nodes (out-Pick pick).ways
unfolding inside
inside-Pick (Pick' at needed s ways) = map_ways-walk ways ∙ sym (ap (λ x. all_of map_way_nodes x.ways) (pick-out at needed s ways))

-- ---- nesting

abbrev pub part_nesting : Part → ℕ
part_nesting part = nesting_in_part part + 1

abbrev pub way_nesting : Way → ℕ
way_nesting way = greatest part_nesting way.body.parts + 1

abbrev pub entry_nesting : MapEntry → ℕ
entry_nesting entry = nesting_in_entry entry + 1

abbrev pub map_way_nesting : MapWay → ℕ
map_way_nesting way = greatest entry_nesting way.entries + 1

shapes-nest : {n : Count} (row : Row_of-Shape n) → shapes_nesting row ≡ greatest nesting (items-the_row-Shape n row)
unfolding nesting_in
shapes-nest end_of-Shape = refl
shapes-nest (more_of-Shape at kind rest) = ap (λ (x : ℕ). max (nesting_in kind + 1) x) (shapes-nest rest)

parts-nest : {n : Count} (row : Row_of-Part n) → parts_nesting row ≡ greatest part_nesting (items-the_row-Part n row)
unfolding nesting_in
parts-nest end_of-Part = refl
parts-nest (more_of-Part part rest) = ap (λ (x : ℕ). max (nesting_in_part part + 1) x) (parts-nest rest)

ways-nest : {n : Count} (row : Row_of-Way n) → ways_nesting row ≡ greatest way_nesting (items-the_row-Way n row)
unfolding nesting_in
ways-nest end_of-Way = refl
ways-nest (more_of-Way at s body rest) =
    let own = parts-nest body ∙ ap (greatest part_nesting) (sym (parts-shown s body)) in
    let others = ways-nest rest in
    λ j. max (own j + 1) (others j)

entries-nest : {n : Count} (row : Row_of-MapEntry n) → entries_nesting row ≡ greatest entry_nesting (items-the_row-MapEntry n row)
unfolding nesting_in
entries-nest end_of-MapEntry = refl
entries-nest (more_of-MapEntry entry rest) = ap (λ (x : ℕ). max (nesting_in_entry entry + 1) x) (entries-nest rest)

map_ways-nest : {n : Count} (row : Row_of-MapWay n) → map_ways_nesting row ≡ greatest map_way_nesting (items-the_row-MapWay n row)
unfolding nesting_in
map_ways-nest end_of-MapWay = refl
map_ways-nest (more_of-MapWay at s entries rest) =
    let own = entries-nest entries ∙ ap (greatest entry_nesting) (sym (entries-shown s entries)) in
    let others = map_ways-nest rest in
    λ j. max (own j + 1) (others j)

pub nesting-Tag : (n : ℕ) (s : Shape) → nesting_in (k.Tag n s) ≡ nesting s
unfolding nesting_in block.hidden-the_row-Shape-0 hidden
nesting-Tag n s = omega arith

pub nesting-AnyTag : (s : Shape) → nesting_in (k.AnyTag s) ≡ nesting s
unfolding nesting_in block.hidden-the_row-Shape-0 hidden
nesting-AnyTag s = omega arith

pub nesting-Cbor : (s : Shape) → nesting_in (k.Cbor s) ≡ nesting s
unfolding nesting_in block.hidden-the_row-Shape-0 hidden
nesting-Cbor s = omega arith

pub nesting-Choice : (ss : List Shape) → nesting_in (k.Choice ss) ≡ greatest nesting ss
unfolding nesting_in
nesting-Choice ss = shapes-nest (block.hidden-the_row-Shape-1 ss) ∙ ap (greatest nesting) (block.items_hidden-the_row-Shape-1 ss)

parts-nesting : (parts : List Part) → parts_nesting (block.hidden-the_row-Part-2 parts) ≡ greatest part_nesting parts
parts-nesting parts = parts-nest (block.hidden-the_row-Part-2 parts) ∙ ap (greatest part_nesting) (block.items_hidden-the_row-Part-2 parts)

pub nesting-Array : (g : Group) → nesting_in (k.Array g) ≡ greatest part_nesting g.parts
unfolding nesting_in
nesting-Array g = parts-nesting g.parts

pub nesting-Map : (entries : List MapEntry) → nesting_in (k.Map entries) ≡ greatest entry_nesting entries
unfolding nesting_in
nesting-Map entries = entries-nest (block.hidden-the_row-MapEntry-3 entries) ∙ ap (greatest entry_nesting) (block.items_hidden-the_row-MapEntry-3 entries)

pub nesting-One : (s : Shape) → nesting_in_part (p.One s) ≡ nesting s
unfolding nesting_in
nesting-One s = refl

pub nesting-Opt : (at : ℕ) (g : Group) → nesting_in_part (p.Opt at g) ≡ greatest part_nesting g.parts
unfolding nesting_in
nesting-Opt at g = parts-nesting g.parts

pub nesting-Many : (at lo hi : ℕ) (g : Group) → nesting_in_part (p.Many at lo hi g) ≡ greatest part_nesting g.parts
unfolding nesting_in
nesting-Many at lo hi g = parts-nesting g.parts

pub nesting-Alt : (at : ℕ) (ways : List Way) → nesting_in_part (p.Alt at ways) ≡ greatest way_nesting ways
unfolding nesting_in
nesting-Alt at ways = ways-nest (block.hidden-the_row-Way-4 ways) ∙ ap (greatest way_nesting) (block.items_hidden-the_row-Way-4 ways)

pub nesting-Field : (f : Field) → nesting_in_entry (m.Field f) ≡ max (nesting f.key) (nesting f.value)
unfolding nesting_in
nesting-Field f = refl

pub nesting-Table : (t : Table) → nesting_in_entry (m.Table t) ≡ max (nesting t.key) (nesting t.value)
unfolding nesting_in
nesting-Table t = refl

pub nesting-Pick : (pick : Pick) → nesting_in_entry (m.Pick pick) ≡ greatest map_way_nesting (out-Pick pick).ways
unfolding nesting_in
nesting-Pick (Pick' at needed s ways) = map_ways-nest ways ∙ sym (ap (λ x. greatest map_way_nesting x.ways) (pick-out at needed s ways))
