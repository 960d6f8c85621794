use Rattle.std.proofs.Common.{inr, ap, sym, ◌∙◌, arith}
use Rattle.ecd_apart.specs.Apart.{Apart}
use Rattle.ecd_disjoint.proofs.Loops.{along, held, failed}
use Rattle.ecd_disjoint.specs.declared.ends.End.TheVariants.{First, Last}
use Rattle.ecd_disjoint.specs.Misses.{SomeMissed}
use Rattle.ecd_disjoint.specs.Ends.{facing, EndsApart}
use Rattle.ecd_disjoint.proofs.Sizes.{size, part_size, entry_size, way_size, total, shape_size, size-Tag, size-AnyTag, size-Cbor, size-Choice, size-Array, size-Map, size-One, size-Field, size-field, size-Table, size-Pick, size-way, below}
use Rattle.ecd_disjoint.proofs.EndLoop.{facing_long, facing_total, ends_over}
use Rattle.ecd_disjoint.proofs.Ways.{first_choice, second_choice, by_heads, by_literals, by_inside}
use Rattle.ecd_disjoint.proofs.Insides.{insides_by, inside-Tag-Tag, inside-Tag-AnyTag, inside-AnyTag-Tag, inside-AnyTag-AnyTag, inside-Cbor-Cbor, arrays_first, arrays_last, maps_first, maps_last, map_alone}
use Rattle.ecd_disjoint.proofs.walk.+walk.Goals as goal

-- ---- each call looks at fewer nodes

pub apart-each_apart-requires : goal.apart-each_apart-requires
apart-each_apart-requires t c = (omega (arith, ap size c.in-Choice.is, size-Choice c.in-Choice.ways, ap (total shape_size) c.as_slice.ensures), tt)

pub apart-each_apart-requires-in-Choice-kind : goal.apart-each_apart-requires-in-Choice-kind
apart-each_apart-requires-in-Choice-kind t c = (omega (arith, ap size c.in-Choice-kind.is, size-Choice c.in-Choice-kind.ways, ap (total shape_size) c.as_slice-in-Choice-kind.ensures), tt)

pub each_apart-apart-requires : goal.each_apart-apart-requires
each_apart-apart-requires t c = (omega (arith, below shape_size c.args.ways.now c.loop-way.way-index c.way-item.result c.loop-way-test.true c.way-item.is), tt)

pub ends_apart-singles_apart-requires : goal.ends_apart-singles_apart-requires
ends_apart-singles_apart-requires t c =
    let part = below part_size (facing c.args.end c.args.parts.now) c.loop-place.place c.at_end-part.result.now (omega (arith, facing_long c.args.end c.args.parts.now)) c.at_end-part.ensures in
    let other = below part_size (facing c.args.end c.args.others.now) c.loop-place.place c.at_end-other.result.now (omega (arith, facing_long c.args.end c.args.others.now)) c.at_end-other.ensures in
    (omega (arith, part, other, facing_total c.args.end c.args.parts.now, facing_total c.args.end c.args.others.now), tt)

pub entry_misses-apart-requires : goal.entry_misses-apart-requires
entry_misses-apart-requires t c = (omega (arith, ap entry_size c.in-Field.is, size-Field c.in-Field.other, size-field c.in-Field.other, size-field c.args.field.now), tt)

pub entry_misses-ways_miss-requires : goal.entry_misses-ways_miss-requires
entry_misses-ways_miss-requires t c = (omega (arith, ap entry_size c.in-Pick.is, size-Pick c.in-Pick.pick, ap (total way_size) c.as_slice.ensures), tt)

pub entry_misses-apart-requires-in-Table : goal.entry_misses-apart-requires-in-Table
entry_misses-apart-requires-in-Table t c = (omega (arith, ap entry_size c.in-Table.is, size-Table c.in-Table.table, size-field c.args.field.now), tt)

pub entry_misses-apart-requires-in-Table-2 : goal.entry_misses-apart-requires-in-Table-2
entry_misses-apart-requires-in-Table-2 t c = (omega (arith, ap entry_size c.in-Table.is, size-Table c.in-Table.table, size-field c.args.field.now), tt)

pub fields_miss-apart-requires : goal.fields_miss-apart-requires
fields_miss-apart-requires t c =
    let entry = below entry_size c.args.entries.now c.loop-entry.entry-index c.entry-item.result c.loop-entry-test.true c.entry-item.is in
    (omega (arith, entry, ap entry_size c.in-Field.is, size-Field c.in-Field.other, size-field c.in-Field.other, size-field c.args.field.now), tt)

pub insides_apart-apart-requires : goal.insides_apart-apart-requires
insides_apart-apart-requires t c = (omega (arith, ap size c.in-Tag.is, size-Tag c.in-Tag.field-0 c.in-Tag.inner, ap size c.in-Tag-kind.is, size-Tag c.in-Tag-kind.field-0 c.in-Tag-kind.other, ap shape_size c.get.ensures, ap shape_size c.get-in-Tag-kind.ensures), tt)

pub insides_apart-apart-requires-in-AnyTag-kind : goal.insides_apart-apart-requires-in-AnyTag-kind
insides_apart-apart-requires-in-AnyTag-kind t c = (omega (arith, ap size c.in-Tag.is, size-Tag c.in-Tag.field-0 c.in-Tag.inner, ap size c.in-AnyTag-kind.is, size-AnyTag c.in-AnyTag-kind.other, ap shape_size c.get-in-AnyTag-kind.ensures, ap shape_size c.get-in-AnyTag-kind-2.ensures), tt)

pub insides_apart-apart-requires-in-Tag-kind-2 : goal.insides_apart-apart-requires-in-Tag-kind-2
insides_apart-apart-requires-in-Tag-kind-2 t c = (omega (arith, ap size c.in-AnyTag.is, size-AnyTag c.in-AnyTag.inner, ap size c.in-Tag-kind-2.is, size-Tag c.in-Tag-kind-2.field-0 c.in-Tag-kind-2.other, ap shape_size c.get-in-Tag-kind-2.ensures, ap shape_size c.get-in-Tag-kind-2-2.ensures), tt)

pub insides_apart-apart-requires-in-AnyTag-kind-2 : goal.insides_apart-apart-requires-in-AnyTag-kind-2
insides_apart-apart-requires-in-AnyTag-kind-2 t c = (omega (arith, ap size c.in-AnyTag.is, size-AnyTag c.in-AnyTag.inner, ap size c.in-AnyTag-kind-2.is, size-AnyTag c.in-AnyTag-kind-2.other, ap shape_size c.get-in-AnyTag-kind-2-2.ensures, ap shape_size c.get-in-AnyTag-kind-2-3.ensures), tt)

pub insides_apart-apart-requires-in-Cbor-kind : goal.insides_apart-apart-requires-in-Cbor-kind
insides_apart-apart-requires-in-Cbor-kind t c = (omega (arith, ap size c.in-Cbor.is, size-Cbor c.in-Cbor.inner, ap size c.in-Cbor-kind.is, size-Cbor c.in-Cbor-kind.other, ap shape_size c.get-in-Cbor-kind.ensures, ap shape_size c.get-in-Cbor-kind-2.ensures), tt)

pub insides_apart-ends_apart-requires : goal.insides_apart-ends_apart-requires
insides_apart-ends_apart-requires t c = (omega (arith, ap size c.in-Array.is, size-Array c.in-Array.group, ap size c.in-Array-kind.is, size-Array c.in-Array-kind.other, ap (total part_size) c.as_slice.ensures, ap (total part_size) c.as_slice-in-Array-kind.ensures), tt)

pub insides_apart-ends_apart-requires-in-Array-kind : goal.insides_apart-ends_apart-requires-in-Array-kind
insides_apart-ends_apart-requires-in-Array-kind t c = (omega (arith, ap size c.in-Array.is, size-Array c.in-Array.group, ap size c.in-Array-kind.is, size-Array c.in-Array-kind.other, ap (total part_size) c.as_slice-in-Array-kind-2.ensures, ap (total part_size) c.as_slice-in-Array-kind-3.ensures), tt)

pub insides_apart-some_missed-requires : goal.insides_apart-some_missed-requires
insides_apart-some_missed-requires t c = (omega (arith, ap size c.in-Map.is, size-Map c.in-Map.entries, ap size c.in-Map-kind.is, size-Map c.in-Map-kind.others, ap (total entry_size) c.as_slice-in-Map-kind.ensures, ap (total entry_size) c.as_slice-in-Map-kind-2.ensures), tt)

pub insides_apart-some_missed-requires-in-Map-kind : goal.insides_apart-some_missed-requires-in-Map-kind
insides_apart-some_missed-requires-in-Map-kind t c = (omega (arith, ap size c.in-Map.is, size-Map c.in-Map.entries, ap size c.in-Map-kind.is, size-Map c.in-Map-kind.others, ap (total entry_size) c.as_slice-in-Map-kind-3.ensures, ap (total entry_size) c.as_slice-in-Map-kind-4.ensures), tt)

pub pair_misses-entry_misses-requires : goal.pair_misses-entry_misses-requires
pair_misses-entry_misses-requires t c = (omega (arith, below entry_size c.args.entries.now c.loop-entry.entry-index c.entry-item.result c.loop-entry-test.true c.entry-item.is), tt)

pub singles_apart-apart-requires : goal.singles_apart-apart-requires
singles_apart-apart-requires t c = (omega (arith, ap part_size c.in-One.is, size-One c.in-One.shape, ap part_size c.in-One-other.is, size-One c.in-One-other.another), tt)

pub some_missed-pair_misses-requires : goal.some_missed-pair_misses-requires
some_missed-pair_misses-requires t c =
    let entry = below entry_size c.args.entries.now c.loop-entry.entry-index c.entry-item.result c.loop-entry-test.true c.entry-item.is in
    (omega (arith, entry, ap entry_size c.in-Field.is, size-Field c.in-Field.field), tt)

pub ways_miss-fields_miss-requires : goal.ways_miss-fields_miss-requires
ways_miss-fields_miss-requires t c =
    let way = below way_size c.args.ways.now c.loop-way.way-index c.way-item.result c.loop-way-test.true c.way-item.is in
    (omega (arith, way, size-way c.way-item.result, ap (total entry_size) c.as_slice.ensures), tt)

-- ---- choices and shapes that are no choices

pub apart-returns-in-Choice : goal.apart-returns-in-Choice
apart-returns-in-Choice t c = first_choice c.args.first.now.kind c.args.second.now.kind c.in-Choice.ways c.as_slice.result.now c.in-Choice.is c.as_slice.ensures c.each_apart.ensures

pub apart-returns-in-Choice-kind : goal.apart-returns-in-Choice-kind
apart-returns-in-Choice-kind t c =
    second_choice c.args.first.now.kind c.args.second.now.kind c.in-Choice-kind.ways c.as_slice-in-Choice-kind.result.now c.in-Choice-kind.is c.as_slice-in-Choice-kind.ensures c.each_apart-in-Choice-kind.ensures

pub apart-returns-then-heads_apart : goal.apart-returns-then-heads_apart
apart-returns-then-heads_apart t c = by_heads c.args.first.now.kind c.args.second.now.kind c.in_default.not-Choice c.in_default-kind.not-Choice (held c.heads_apart.result c.if-heads_apart.true c.heads_apart.ensures)

pub apart-returns-then-literals_differ : goal.apart-returns-then-literals_differ
apart-returns-then-literals_differ t c =
    by_literals c.args.first.now.kind c.args.second.now.kind c.in_default.not-Choice c.in_default-kind.not-Choice (held c.literals_differ.result c.if-literals_differ.true c.literals_differ.ensures)

pub apart-returns-else-literals_differ : goal.apart-returns-else-literals_differ
apart-returns-else-literals_differ t c =
    by_inside c.args.first.now.kind c.args.second.now.kind c.in_default.not-Choice c.in_default-kind.not-Choice (failed c.heads_apart.result c.if-heads_apart.false c.heads_apart.ensures)
    (failed c.literals_differ.result c.if-literals_differ.false c.literals_differ.ensures) c.insides_apart.ensures

-- ---- the ends of arrays

pub ends_apart-returns-else-place-others : goal.ends_apart-returns-else-place-others
ends_apart-returns-else-place-others t c = ends_over c.args.end c.args.parts.now c.args.others.now c.loop-place.place (inr c.if-place-others.false) c.loop-place.invariant

-- ---- what two shapes hold

pub insides_apart-returns-in-Tag-kind : goal.insides_apart-returns-in-Tag-kind
insides_apart-returns-in-Tag-kind t c = insides_by c.in-Tag.is c.in-Tag-kind.is (along ((λ j. Apart (c.get.ensures j).kind (c.get-in-Tag-kind.ensures j).kind) ∙ sym (inside-Tag-Tag c.in-Tag.field-0 c.in-Tag-kind.field-0 c.in-Tag.inner c.in-Tag-kind.other)) c.apart.ensures)

pub insides_apart-returns-in-AnyTag-kind : goal.insides_apart-returns-in-AnyTag-kind
insides_apart-returns-in-AnyTag-kind t c = insides_by c.in-Tag.is c.in-AnyTag-kind.is (along ((λ j. Apart (c.get-in-AnyTag-kind.ensures j).kind (c.get-in-AnyTag-kind-2.ensures j).kind) ∙ sym (inside-Tag-AnyTag c.in-Tag.field-0 c.in-Tag.inner c.in-AnyTag-kind.other)) c.apart-in-AnyTag-kind.ensures)

pub insides_apart-returns-in-Tag-kind-2 : goal.insides_apart-returns-in-Tag-kind-2
insides_apart-returns-in-Tag-kind-2 t c = insides_by c.in-AnyTag.is c.in-Tag-kind-2.is (along ((λ j. Apart (c.get-in-Tag-kind-2.ensures j).kind (c.get-in-Tag-kind-2-2.ensures j).kind) ∙ sym (inside-AnyTag-Tag c.in-Tag-kind-2.field-0 c.in-AnyTag.inner c.in-Tag-kind-2.other)) c.apart-in-Tag-kind-2.ensures)

pub insides_apart-returns-in-AnyTag-kind-2 : goal.insides_apart-returns-in-AnyTag-kind-2
insides_apart-returns-in-AnyTag-kind-2 t c = insides_by c.in-AnyTag.is c.in-AnyTag-kind-2.is (along ((λ j. Apart (c.get-in-AnyTag-kind-2-2.ensures j).kind (c.get-in-AnyTag-kind-2-3.ensures j).kind) ∙ sym (inside-AnyTag-AnyTag c.in-AnyTag.inner c.in-AnyTag-kind-2.other)) c.apart-in-AnyTag-kind-2.ensures)

pub insides_apart-returns-in-Cbor-kind : goal.insides_apart-returns-in-Cbor-kind
insides_apart-returns-in-Cbor-kind t c = insides_by c.in-Cbor.is c.in-Cbor-kind.is (along ((λ j. Apart (c.get-in-Cbor-kind.ensures j).kind (c.get-in-Cbor-kind-2.ensures j).kind) ∙ sym (inside-Cbor-Cbor c.in-Cbor.inner c.in-Cbor-kind.other)) c.apart-in-Cbor-kind.ensures)

pub insides_apart-returns-then-ends_apart : goal.insides_apart-returns-then-ends_apart
insides_apart-returns-then-ends_apart t c =
    insides_by c.in-Array.is c.in-Array-kind.is (arrays_first c.in-Array.group c.in-Array-kind.other (held c.ends_apart.result c.if-ends_apart.true (along (λ j. EndsApart First (c.as_slice.ensures j) (c.as_slice-in-Array-kind.ensures j)) c.ends_apart.ensures)))

pub insides_apart-returns-else-ends_apart : goal.insides_apart-returns-else-ends_apart
insides_apart-returns-else-ends_apart t c =
    insides_by c.in-Array.is c.in-Array-kind.is
    (arrays_last c.in-Array.group c.in-Array-kind.other (failed c.ends_apart.result c.if-ends_apart.false (along (λ j. EndsApart First (c.as_slice.ensures j) (c.as_slice-in-Array-kind.ensures j)) c.ends_apart.ensures))
    (along (λ j. EndsApart Last (c.as_slice-in-Array-kind-2.ensures j) (c.as_slice-in-Array-kind-3.ensures j)) c.ends_apart-in-Array-kind.ensures))

pub insides_apart-returns-then-some_missed : goal.insides_apart-returns-then-some_missed
insides_apart-returns-then-some_missed t c =
    insides_by c.in-Map.is c.in-Map-kind.is (maps_first c.in-Map.entries c.in-Map-kind.others (held c.some_missed.result c.if-some_missed.true (along (λ j. SomeMissed (c.as_slice-in-Map-kind.ensures j) (c.as_slice-in-Map-kind-2.ensures j)) c.some_missed.ensures)))

pub insides_apart-returns-else-some_missed : goal.insides_apart-returns-else-some_missed
insides_apart-returns-else-some_missed t c =
    insides_by c.in-Map.is c.in-Map-kind.is
    (maps_last c.in-Map.entries c.in-Map-kind.others (failed c.some_missed.result c.if-some_missed.false (along (λ j. SomeMissed (c.as_slice-in-Map-kind.ensures j) (c.as_slice-in-Map-kind-2.ensures j)) c.some_missed.ensures))
    (along (λ j. SomeMissed (c.as_slice-in-Map-kind-3.ensures j) (c.as_slice-in-Map-kind-4.ensures j)) c.some_missed-in-Map-kind.ensures))

pub insides_apart-returns-in_default-kind-5 : goal.insides_apart-returns-in_default-kind-5
insides_apart-returns-in_default-kind-5 t c = map_alone c.args.first.now.kind c.args.second.now.kind c.in-Map.entries c.in-Map.is c.in_default-kind-5.not-Map
