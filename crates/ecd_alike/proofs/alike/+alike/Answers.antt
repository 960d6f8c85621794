use Rattle.std.proofs.Common.{◌≡◌, refl, sym, ◌∙◌, Bool, true, false}
use mathlib.Core.Bool.{beq, not}
use Rattle.ecd_core.specs.declared.shape.Shape.{Shape}
use Rattle.ecd_core.specs.declared.shape.Way.{Way}
use Rattle.ecd_core.specs.declared.shape.MapWay.{MapWay}
use Rattle.ecd_shape_rules.specs.Alike.{IsAlike, PartAlike, EntryAlike}
use Rattle.ecd_alike.specs.Pairs.{ShapesMatch, PartsMatch, WaysMatch, EntriesMatch, MapWaysMatch}
use Rattle.ecd_alike.proofs.Pairs.{refuted, carried, along, pairs_more, pairs_stop, pairs_end, pairs_unlike}
use Rattle.ecd_alike.proofs.ByKind.{alike-AnyTag, alike-Cbor, alike-Choice, alike-Array, alike-Map, alike-One, alike-Opt, alike-Many, alike-Alt, alike-Field, alike-Table, alike-Pick, other_than-Tag, other_than-AnyTag, other_than-Cbor, other_than-Choice, other_than-Array, other_than-Map, other_than-One, other_than-Opt, other_than-Many, other_than-Alt, other_than-Field, other_than-Table, other_than-Pick, tag_by, tag_not, back, kinds_by, kinds_not, parts_by, parts_not, entries_by, entries_not, leaf_same, leaf_only}
use Rattle.ecd_alike.proofs.alike.+alike.Goals as goal

needed_differs : (a b : Bool) → not (beq a b) ≡ true → a ≡ b → ⊥
needed_differs true true h e = let bad : false ≡ true = h in absurd cc
needed_differs true false h e = absurd cc
needed_differs false true h e = absurd cc
needed_differs false false h e = let bad : false ≡ true = h in absurd cc

needed_same : (a b : Bool) → not (beq a b) ≡ false → a ≡ b
needed_same true true h = refl
needed_same true false h = let bad : true ≡ false = h in absurd cc
needed_same false true h = let bad : true ≡ false = h in absurd cc
needed_same false false h = refl

pub is_alike-returns-then-n-m : goal.is_alike-returns-then-n-m
is_alike-returns-then-n-m t c = kinds_by c.in-Tag.is c.in-Tag-kind.is (tag_not c.in-Tag.n c.in-Tag.x c.in-Tag-kind.m c.in-Tag-kind.y c.if-n-m.true)

pub is_alike-returns-else-n-m : goal.is_alike-returns-else-n-m
is_alike-returns-else-n-m t c = kinds_by c.in-Tag.is c.in-Tag-kind.is (tag_by c.in-Tag.n c.in-Tag.x c.in-Tag-kind.m c.in-Tag-kind.y c.if-n-m.false (along (λ j. IsAlike (c.get.ensures j).kind (c.get-in-Tag-kind.ensures j).kind) c.is_alike.ensures))

pub is_alike-returns-in_default-kind : goal.is_alike-returns-in_default-kind
is_alike-returns-in_default-kind t c = kinds_not c.args.a.now.kind c.args.b.now.kind c.in-Tag.is (other_than-Tag c.in-Tag.n c.in-Tag.x c.args.b.now.kind c.in_default-kind.not-Tag)

pub is_alike-returns-in-AnyTag-kind : goal.is_alike-returns-in-AnyTag-kind
is_alike-returns-in-AnyTag-kind t c = kinds_by c.in-AnyTag.is c.in-AnyTag-kind.is (back (alike-AnyTag c.in-AnyTag.x c.in-AnyTag-kind.y) (along (λ j. IsAlike (c.get-in-AnyTag-kind.ensures j).kind (c.get-in-AnyTag-kind-2.ensures j).kind) c.is_alike-in-AnyTag-kind.ensures))

pub is_alike-returns-in_default-kind-2 : goal.is_alike-returns-in_default-kind-2
is_alike-returns-in_default-kind-2 t c = kinds_not c.args.a.now.kind c.args.b.now.kind c.in-AnyTag.is (other_than-AnyTag c.in-AnyTag.x c.args.b.now.kind c.in_default-kind-2.not-AnyTag)

pub is_alike-returns-in-Cbor-kind : goal.is_alike-returns-in-Cbor-kind
is_alike-returns-in-Cbor-kind t c = kinds_by c.in-Cbor.is c.in-Cbor-kind.is (back (alike-Cbor c.in-Cbor.x c.in-Cbor-kind.y) (along (λ j. IsAlike (c.get-in-Cbor-kind.ensures j).kind (c.get-in-Cbor-kind-2.ensures j).kind) c.is_alike-in-Cbor-kind.ensures))

pub is_alike-returns-in_default-kind-3 : goal.is_alike-returns-in_default-kind-3
is_alike-returns-in_default-kind-3 t c = kinds_not c.args.a.now.kind c.args.b.now.kind c.in-Cbor.is (other_than-Cbor c.in-Cbor.x c.args.b.now.kind c.in_default-kind-3.not-Cbor)

pub is_alike-returns-in-Choice-kind : goal.is_alike-returns-in-Choice-kind
is_alike-returns-in-Choice-kind t c = kinds_by c.in-Choice.is c.in-Choice-kind.is (along ((λ j. ShapesMatch (c.as_slice.ensures j) (c.as_slice-in-Choice-kind.ensures j)) ∙ sym (alike-Choice c.in-Choice.xs c.in-Choice-kind.ys)) c.shapes_alike.ensures)

pub is_alike-returns-in_default-kind-4 : goal.is_alike-returns-in_default-kind-4
is_alike-returns-in_default-kind-4 t c = kinds_not c.args.a.now.kind c.args.b.now.kind c.in-Choice.is (other_than-Choice c.in-Choice.xs c.args.b.now.kind c.in_default-kind-4.not-Choice)

pub is_alike-returns-in-Array-kind : goal.is_alike-returns-in-Array-kind
is_alike-returns-in-Array-kind t c = kinds_by c.in-Array.is c.in-Array-kind.is (along ((λ j. PartsMatch (c.as_slice-in-Array-kind.ensures j) (c.as_slice-in-Array-kind-2.ensures j)) ∙ sym (alike-Array c.in-Array.x c.in-Array-kind.y)) c.parts_alike.ensures)

pub is_alike-returns-in_default-kind-5 : goal.is_alike-returns-in_default-kind-5
is_alike-returns-in_default-kind-5 t c = kinds_not c.args.a.now.kind c.args.b.now.kind c.in-Array.is (other_than-Array c.in-Array.x c.args.b.now.kind c.in_default-kind-5.not-Array)

pub is_alike-returns-in-Map-kind : goal.is_alike-returns-in-Map-kind
is_alike-returns-in-Map-kind t c = kinds_by c.in-Map.is c.in-Map-kind.is (along ((λ j. EntriesMatch (c.as_slice-in-Map-kind.ensures j) (c.as_slice-in-Map-kind-2.ensures j)) ∙ sym (alike-Map c.in-Map.xs c.in-Map-kind.ys)) c.entries_alike.ensures)

pub is_alike-returns-in_default-kind-6 : goal.is_alike-returns-in_default-kind-6
is_alike-returns-in_default-kind-6 t c = kinds_not c.args.a.now.kind c.args.b.now.kind c.in-Map.is (other_than-Map c.in-Map.xs c.args.b.now.kind c.in_default-kind-6.not-Map)

pub is_alike-returns-in_default : goal.is_alike-returns-in_default
is_alike-returns-in_default t c = carried (leaf_same c.args.a.now.kind c.args.b.now.kind) (leaf_only c.args.a.now.kind c.args.b.now.kind c.in_default.not-Tag c.in_default.not-AnyTag c.in_default.not-Cbor c.in_default.not-Choice c.in_default.not-Array c.in_default.not-Map) c.is_same_leaf.ensures

pub entry_alike-returns-in-Field-b : goal.entry_alike-returns-in-Field-b
entry_alike-returns-in-Field-b t c = entries_by c.in-Field.is c.in-Field-b.is (along (sym (alike-Field c.in-Field.x c.in-Field-b.y)) c.fields_alike.ensures)

pub entry_alike-returns-in_default : goal.entry_alike-returns-in_default
entry_alike-returns-in_default t c = entries_not c.args.a.now c.args.b.now c.in-Field.is (other_than-Field c.in-Field.x c.args.b.now c.in_default.not-Field)

pub entry_alike-returns-then-x-y : goal.entry_alike-returns-then-x-y
entry_alike-returns-then-x-y t c = entries_by c.in-Pick.is c.in-Pick-b.is (along (sym (alike-Pick c.in-Pick.x c.in-Pick-b.y)) (refuted (λ h. needed_differs _ _ c.if-x-y.true h.0)))

pub entry_alike-returns-else-x-y : goal.entry_alike-returns-else-x-y
entry_alike-returns-else-x-y t c = entries_by c.in-Pick.is c.in-Pick-b.is (along (sym (alike-Pick c.in-Pick.x c.in-Pick-b.y)) (carried (λ h. (needed_same _ _ c.if-x-y.false, h)) (λ h. h.1) (along (λ j. MapWaysMatch (c.as_slice.ensures j) (c.as_slice-in-Pick-b.ensures j)) c.map_ways_alike.ensures)))

pub entry_alike-returns-in_default-b : goal.entry_alike-returns-in_default-b
entry_alike-returns-in_default-b t c = entries_not c.args.a.now c.args.b.now c.in-Pick.is (other_than-Pick c.in-Pick.x c.args.b.now c.in_default-b.not-Pick)

pub entry_alike-returns-in-Table-b : goal.entry_alike-returns-in-Table-b
entry_alike-returns-in-Table-b t c = entries_by c.in-Table.is c.in-Table-b.is (along (sym (alike-Table c.in-Table.x c.in-Table-b.y)) c.tables_alike.ensures)

pub entry_alike-returns-in_default-b-2 : goal.entry_alike-returns-in_default-b-2
entry_alike-returns-in_default-b-2 t c = entries_not c.args.a.now c.args.b.now c.in-Table.is (other_than-Table c.in-Table.x c.args.b.now c.in_default-b-2.not-Table)

pub shapes_alike-returns-then-a-b : goal.shapes_alike-returns-then-a-b
shapes_alike-returns-then-a-b t c = pairs_unlike (λ (s : Shape) (t : Shape). IsAlike s.kind t.kind) c.args.a.now c.args.b.now c.if-a-b.true

pub parts_alike-returns-then-a-b : goal.parts_alike-returns-then-a-b
parts_alike-returns-then-a-b t c = pairs_unlike PartAlike c.args.a.now c.args.b.now c.if-a-b.true

pub ways_alike-returns-then-a-b : goal.ways_alike-returns-then-a-b
ways_alike-returns-then-a-b t c = pairs_unlike (λ (v : Way) (w : Way). PartsMatch v.body.parts w.body.parts) c.args.a.now c.args.b.now c.if-a-b.true

pub entries_alike-returns-then-a-b : goal.entries_alike-returns-then-a-b
entries_alike-returns-then-a-b t c = pairs_unlike EntryAlike c.args.a.now c.args.b.now c.if-a-b.true

pub map_ways_alike-returns-then-a-b : goal.map_ways_alike-returns-then-a-b
map_ways_alike-returns-then-a-b t c = pairs_unlike (λ (v : MapWay) (w : MapWay). EntriesMatch v.entries w.entries) c.args.a.now c.args.b.now c.if-a-b.true

pub part_alike-returns-in-One-b : goal.part_alike-returns-in-One-b
part_alike-returns-in-One-b t c = parts_by c.in-One.is c.in-One-b.is (along (sym (alike-One c.in-One.x c.in-One-b.y)) c.is_alike.ensures)

pub part_alike-returns-in_default : goal.part_alike-returns-in_default
part_alike-returns-in_default t c = parts_not c.args.a.now c.args.b.now c.in-One.is (other_than-One c.in-One.x c.args.b.now c.in_default.not-One)

pub part_alike-returns-in-Opt-b : goal.part_alike-returns-in-Opt-b
part_alike-returns-in-Opt-b t c = parts_by c.in-Opt.is c.in-Opt-b.is (along ((λ j. PartsMatch (c.as_slice.ensures j) (c.as_slice-in-Opt-b.ensures j)) ∙ sym (alike-Opt c.in-Opt.at c.in-Opt-b.at c.in-Opt.x c.in-Opt-b.y)) c.parts_alike.ensures)

pub part_alike-returns-in_default-b : goal.part_alike-returns-in_default-b
part_alike-returns-in_default-b t c = parts_not c.args.a.now c.args.b.now c.in-Opt.is (other_than-Opt c.in-Opt.at c.in-Opt.x c.args.b.now c.in_default-b.not-Opt)

pub part_alike-returns-then-lo-least : goal.part_alike-returns-then-lo-least
part_alike-returns-then-lo-least t c = parts_by c.in-Many.is c.in-Many-b.is (along (sym (alike-Many c.in-Many.at c.in-Many.lo c.in-Many.hi c.in-Many.x c.in-Many-b.at c.in-Many-b.least c.in-Many-b.most c.in-Many-b.y)) (refuted (λ h. c.if-lo-least.true h.0)))

pub part_alike-returns-then-hi-most : goal.part_alike-returns-then-hi-most
part_alike-returns-then-hi-most t c = parts_by c.in-Many.is c.in-Many-b.is (along (sym (alike-Many c.in-Many.at c.in-Many.lo c.in-Many.hi c.in-Many.x c.in-Many-b.at c.in-Many-b.least c.in-Many-b.most c.in-Many-b.y)) (refuted (λ h. c.if-hi-most.true h.1)))

pub part_alike-returns-else-hi-most : goal.part_alike-returns-else-hi-most
part_alike-returns-else-hi-most t c = parts_by c.in-Many.is c.in-Many-b.is (along (sym (alike-Many c.in-Many.at c.in-Many.lo c.in-Many.hi c.in-Many.x c.in-Many-b.at c.in-Many-b.least c.in-Many-b.most c.in-Many-b.y)) (carried (λ h. (c.if-lo-least.false, c.if-hi-most.false, h)) (λ h. h.2) (along (λ j. PartsMatch (c.as_slice-in-Many-b.ensures j) (c.as_slice-in-Many-b-2.ensures j)) c.parts_alike-in-Many-b.ensures)))

pub part_alike-returns-in_default-b-2 : goal.part_alike-returns-in_default-b-2
part_alike-returns-in_default-b-2 t c = parts_not c.args.a.now c.args.b.now c.in-Many.is (other_than-Many c.in-Many.at c.in-Many.lo c.in-Many.hi c.in-Many.x c.args.b.now c.in_default-b-2.not-Many)

pub part_alike-returns-in-Alt-b : goal.part_alike-returns-in-Alt-b
part_alike-returns-in-Alt-b t c = parts_by c.in-Alt.is c.in-Alt-b.is (along ((λ j. WaysMatch (c.as_slice-in-Alt-b.ensures j) (c.as_slice-in-Alt-b-2.ensures j)) ∙ sym (alike-Alt c.in-Alt.at c.in-Alt-b.at c.in-Alt.x c.in-Alt-b.y)) c.ways_alike.ensures)

pub part_alike-returns-in_default-b-3 : goal.part_alike-returns-in_default-b-3
part_alike-returns-in_default-b-3 t c = parts_not c.args.a.now c.args.b.now c.in-Alt.is (other_than-Alt c.in-Alt.at c.in-Alt.x c.args.b.now c.in_default-b-3.not-Alt)
