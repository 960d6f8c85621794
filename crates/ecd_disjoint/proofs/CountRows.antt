-- Counts by rows are those by lists.
use Rattle.std.proofs.Common.{◌≡◌, ℕ, ◌+◌, ◌*◌, cond, List, [], ◌∷◌, refl, ap, sym, ◌∙◌}
use Rattle.std.specs.Prelude.{min, max}
use mathlib.Core.Former.{Count}
use Rattle.ecd_core.specs.declared.shape.Kind.{Row_of-MapEntry, end_of-MapEntry, more_of-MapEntry, items-the_row-MapEntry}
use Rattle.ecd_core.specs.declared.shape.Kind.TheVariants as k
use Rattle.ecd_core.specs.declared.shape.Kind.TheBlock as block
use Rattle.ecd_core.specs.declared.shape.Shape.{Shape}
use Rattle.ecd_core.specs.declared.shape.Group.{Group, Row_of-Part, end_of-Part, more_of-Part, items-the_row-Part}
use Rattle.ecd_core.specs.declared.shape.Part.{Part, Row_of-Way, end_of-Way, more_of-Way, items-the_row-Way}
use Rattle.ecd_core.specs.declared.shape.Part.TheVariants as p
use Rattle.ecd_core.specs.declared.shape.Way.{Way}
use Rattle.ecd_core.specs.declared.shape.MapEntry.{MapEntry, Field', Table'}
use Rattle.ecd_core.specs.declared.shape.MapEntry.TheVariants as m
use Rattle.ecd_core.specs.declared.shape.Field.{Field}
use Rattle.ecd_core.specs.declared.shape.Table.{Table}
use Rattle.ecd_core.specs.declared.shape.Pick.{Pick, Pick', Row_of-MapWay, end_of-MapWay, more_of-MapWay, items-the_row-MapWay, out-Pick}
use Rattle.ecd_core.proofs.Layers.{parts-shown, entries-shown, pick-out}
use Rattle.ecd_apart.specs.Counts.{cap, least, part_least, ways_least, greatest, part_greatest, ways_greatest, needed_count, fields_least, fields_greatest, map_ways_least, map_ways_greatest, pick_least, pick_greatest, entry_least, entry_greatest, pairs_least, pairs_greatest}
use Rattle.ecd_apart.specs.Boxes.{box, boxes}
use Rattle.ecd_disjoint.proofs.Sums.{sum_small}
use Rattle.ecd_disjoint.specs.Counts.{needed_pairs, field_pairs, items_least, items_greatest, ways_least_of, ways_greatest_of, needed_in_way, fields_in_way, map_ways_least_of, map_ways_greatest_of, entries_least, entries_greatest}

-- ---- arrays

least_row : {n : Count} (row : Row_of-Part n) → least row ≡ items_least (items-the_row-Part n row)
unfolding least
least_row end_of-Part = refl
least_row (more_of-Part part rest) = ap (λ (x : ℕ). cap (part_least part + x)) (least_row rest)

ways_least_row : {n : Count} (row : Row_of-Way n) → ways_least row ≡ ways_least_of (items-the_row-Way n row)
unfolding least
ways_least_row end_of-Way = refl
ways_least_row (more_of-Way at s body rest) =
    let own = least_row body ∙ ap items_least (sym (parts-shown s body)) in
    let others = ways_least_row rest in
    λ j. min (own j) (others j)

pub least-parts : (parts : List Part) → least (block.hidden-the_row-Part-2 parts) ≡ items_least parts
least-parts parts = least_row (block.hidden-the_row-Part-2 parts) ∙ ap items_least (block.items_hidden-the_row-Part-2 parts)

pub least-One : (s : Shape) → part_least (p.One s) ≡ 1
unfolding least
least-One s = refl

pub least-Opt : (at : ℕ) (g : Group) → part_least (p.Opt at g) ≡ 0
unfolding least
least-Opt at g = refl

pub least-Many : (at lo hi : ℕ) (g : Group) → part_least (p.Many at lo hi g) ≡ cap (lo * items_least g.parts)
unfolding least
least-Many at lo hi g = ap (λ (x : ℕ). cap (lo * x)) (least-parts g.parts)

pub least-Alt : (at : ℕ) (ways : List Way) → part_least (p.Alt at ways) ≡ ways_least_of ways
unfolding least
least-Alt at ways = ways_least_row (block.hidden-the_row-Way-4 ways) ∙ ap ways_least_of (block.items_hidden-the_row-Way-4 ways)

greatest_row : {n : Count} (row : Row_of-Part n) → greatest row ≡ items_greatest (items-the_row-Part n row)
unfolding greatest
greatest_row end_of-Part = refl
greatest_row (more_of-Part part rest) = ap (λ (x : ℕ). cap (part_greatest part + x)) (greatest_row rest)

ways_greatest_row : {n : Count} (row : Row_of-Way n) → ways_greatest row ≡ ways_greatest_of (items-the_row-Way n row)
unfolding greatest
ways_greatest_row end_of-Way = refl
ways_greatest_row (more_of-Way at s body rest) =
    let own = greatest_row body ∙ ap items_greatest (sym (parts-shown s body)) in
    let others = ways_greatest_row rest in
    λ j. max (own j) (others j)

pub greatest-parts : (parts : List Part) → greatest (block.hidden-the_row-Part-2 parts) ≡ items_greatest parts
greatest-parts parts = greatest_row (block.hidden-the_row-Part-2 parts) ∙ ap items_greatest (block.items_hidden-the_row-Part-2 parts)

pub greatest-One : (s : Shape) → part_greatest (p.One s) ≡ 1
unfolding greatest
greatest-One s = refl

pub greatest-Opt : (at : ℕ) (g : Group) → part_greatest (p.Opt at g) ≡ items_greatest g.parts
unfolding greatest
greatest-Opt at g = greatest-parts g.parts

pub greatest-Many : (at lo hi : ℕ) (g : Group) → part_greatest (p.Many at lo hi g) ≡ cap (hi * items_greatest g.parts)
unfolding greatest
greatest-Many at lo hi g = ap (λ (x : ℕ). cap (hi * x)) (greatest-parts g.parts)

pub greatest-Alt : (at : ℕ) (ways : List Way) → part_greatest (p.Alt at ways) ≡ ways_greatest_of ways
unfolding greatest
greatest-Alt at ways = ways_greatest_row (block.hidden-the_row-Way-4 ways) ∙ ap ways_greatest_of (block.items_hidden-the_row-Way-4 ways)

pub array-boxes : (g : Group) → boxes (k.Array g) ≡ box 4 (items_least g.parts) (items_greatest g.parts) ∷ []
array-boxes g = let a = least-parts g.parts in let b = greatest-parts g.parts in λ j. box 4 (a j) (b j) ∷ []

-- ---- maps

needed_row : {n : Count} (row : Row_of-MapEntry n) → fields_least row ≡ needed_in_way (items-the_row-MapEntry n row)
unfolding fields_least
needed_row end_of-MapEntry = refl
needed_row (more_of-MapEntry (Field' at _ key cut lo _ kind) rest) = ap (λ (x : ℕ). cap (needed_count lo + x)) (needed_row rest)
needed_row (more_of-MapEntry (m.Pick pick) rest) = needed_row rest ∙ sym (sum_small needed_pairs (items-the_row-MapEntry _ rest))
needed_row (more_of-MapEntry (Table' at lo hi _ key _ kind) rest) = needed_row rest ∙ sym (sum_small needed_pairs (items-the_row-MapEntry _ rest))

fields_row : {n : Count} (row : Row_of-MapEntry n) → fields_greatest row ≡ fields_in_way (items-the_row-MapEntry n row)
unfolding fields_greatest
fields_row end_of-MapEntry = refl
fields_row (more_of-MapEntry (Field' at _ key cut lo _ kind) rest) = ap (λ (x : ℕ). cap (1 + x)) (fields_row rest)
fields_row (more_of-MapEntry (m.Pick pick) rest) = fields_row rest ∙ sym (sum_small field_pairs (items-the_row-MapEntry _ rest))
fields_row (more_of-MapEntry (Table' at lo hi _ key _ kind) rest) = fields_row rest ∙ sym (sum_small field_pairs (items-the_row-MapEntry _ rest))

map_ways_least_row : {n : Count} (row : Row_of-MapWay n) → map_ways_least row ≡ map_ways_least_of (items-the_row-MapWay n row)
unfolding map_ways_least
map_ways_least_row end_of-MapWay = refl
map_ways_least_row (more_of-MapWay at s entries rest) =
    let own = needed_row entries ∙ ap needed_in_way (sym (entries-shown s entries)) in
    let others = map_ways_least_row rest in
    λ j. min (own j) (others j)

map_ways_greatest_row : {n : Count} (row : Row_of-MapWay n) → map_ways_greatest row ≡ map_ways_greatest_of (items-the_row-MapWay n row)
unfolding map_ways_greatest
map_ways_greatest_row end_of-MapWay = refl
map_ways_greatest_row (more_of-MapWay at s entries rest) =
    let own = fields_row entries ∙ ap fields_in_way (sym (entries-shown s entries)) in
    let others = map_ways_greatest_row rest in
    λ j. max (own j) (others j)

pub least-Field : (f : Field) → entry_least (m.Field f) ≡ needed_pairs (m.Field f)
unfolding entry_least
least-Field f = refl

pub least-Pick : (pick : Pick) → entry_least (m.Pick pick) ≡ cond (out-Pick pick).needed (map_ways_least_of (out-Pick pick).ways) 0
unfolding entry_least pick_least
least-Pick (Pick' at needed s ways) =
    let e = map_ways_least_row ways in
    let shown = pick-out at needed s ways in
    (λ j. cond needed (e j) 0) ∙ (λ j. cond (sym shown j).needed (map_ways_least_of (sym shown j).ways) 0)

pub least-Table : (t : Table) → entry_least (m.Table t) ≡ t.lo
unfolding entry_least
least-Table t = refl

pub greatest-Field : (f : Field) → entry_greatest (m.Field f) ≡ 1
unfolding entry_greatest
greatest-Field f = refl

pub greatest-Pick : (pick : Pick) → entry_greatest (m.Pick pick) ≡ map_ways_greatest_of (out-Pick pick).ways
unfolding entry_greatest pick_greatest
greatest-Pick (Pick' at needed s ways) = map_ways_greatest_row ways ∙ ap (λ x. map_ways_greatest_of x.ways) (sym (pick-out at needed s ways))

pub greatest-Table : (t : Table) → entry_greatest (m.Table t) ≡ t.hi
unfolding entry_greatest
greatest-Table t = refl

pairs_least_row : {n : Count} (row : Row_of-MapEntry n) → pairs_least row ≡ entries_least (items-the_row-MapEntry n row)
unfolding pairs_least
pairs_least_row end_of-MapEntry = refl
pairs_least_row (more_of-MapEntry entry rest) = ap (λ (x : ℕ). cap (entry_least entry + x)) (pairs_least_row rest)

pairs_greatest_row : {n : Count} (row : Row_of-MapEntry n) → pairs_greatest row ≡ entries_greatest (items-the_row-MapEntry n row)
unfolding pairs_greatest
pairs_greatest_row end_of-MapEntry = refl
pairs_greatest_row (more_of-MapEntry entry rest) = ap (λ (x : ℕ). cap (entry_greatest entry + x)) (pairs_greatest_row rest)

pub map-boxes : (entries : List MapEntry) → boxes (k.Map entries) ≡ box 5 (entries_least entries) (entries_greatest entries) ∷ []
map-boxes entries =
    let a = pairs_least_row (block.hidden-the_row-MapEntry-3 entries) ∙ ap entries_least (block.items_hidden-the_row-MapEntry-3 entries) in
    let b = pairs_greatest_row (block.hidden-the_row-MapEntry-3 entries) ∙ ap entries_greatest (block.items_hidden-the_row-MapEntry-3 entries) in
    λ j. box 5 (a j) (b j) ∷ []
