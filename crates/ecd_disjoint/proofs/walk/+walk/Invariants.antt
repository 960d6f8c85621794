use Rattle.std.proofs.Common.{◌↔◌, ◌+◌, ◌*◌, ◌-◌, drop, length}
use Rattle.ecd_disjoint.specs.Inside.{EachIsApart}
use Rattle.ecd_disjoint.specs.Ends.{facing, singles, SomeApart, EndsApart}
use Rattle.ecd_disjoint.specs.Misses.{EntryMisses, SomeMissed, WaysMissPair, FieldsMissPair, CutAmong}
use Rattle.ecd_core.specs.Lists.{Each}
use Rattle.ecd_disjoint.proofs.Sizes.{size, part_size, entry_size, total, shape_size, field_size, way_size}
use Rattle.ecd_disjoint.proofs.walk.+walk.Given as goal

abbrev pub decreases-apart : goal.decreases-apart
decreases-apart l = 16 * (size l.first.now.kind + size l.second.now.kind) + 8

abbrev pub decreases-each_apart : goal.decreases-each_apart
decreases-each_apart l = 16 * (total shape_size l.ways.now + size l.other.now.kind) + 7

abbrev pub decreases-insides_apart : goal.decreases-insides_apart
decreases-insides_apart l = 16 * (size l.first.now.kind + size l.second.now.kind) + 7

abbrev pub decreases-ends_apart : goal.decreases-ends_apart
decreases-ends_apart l = 16 * (total part_size l.parts.now + total part_size l.others.now) + 6

abbrev pub decreases-singles_apart : goal.decreases-singles_apart
decreases-singles_apart l = 16 * (part_size l.part.now + part_size l.other.now) + 9

abbrev pub decreases-some_missed : goal.decreases-some_missed
decreases-some_missed l = 16 * (total entry_size l.entries.now + total entry_size l.others.now) + 6

abbrev pub decreases-pair_misses : goal.decreases-pair_misses
decreases-pair_misses l = 16 * (total entry_size l.entries.now + field_size l.field.now) + 5

abbrev pub decreases-entry_misses : goal.decreases-entry_misses
decreases-entry_misses l = 16 * (entry_size l.entry.now + field_size l.field.now) + 4

abbrev pub decreases-ways_miss : goal.decreases-ways_miss
decreases-ways_miss l = 16 * (total way_size l.ways.now + field_size l.field.now) + 3

abbrev pub decreases-fields_miss : goal.decreases-fields_miss
decreases-fields_miss l = 16 * (total entry_size l.entries.now + field_size l.field.now) + 2

abbrev pub invariant-each_apart-loop-way : goal.invariant-each_apart-loop-way
invariant-each_apart-loop-way l = EachIsApart l.ways l.other.kind ↔ EachIsApart (drop l.way-index l.ways) l.other.kind

abbrev pub invariant-ends_apart-loop-place : goal.invariant-ends_apart-loop-place
invariant-ends_apart-loop-place l = EndsApart l.end l.parts l.others ↔ SomeApart (singles (drop l.place (facing l.end l.parts))) (singles (drop l.place (facing l.end l.others)))

abbrev pub decreases-ends_apart-loop-place : goal.decreases-ends_apart-loop-place
decreases-ends_apart-loop-place l = length l.parts - l.place

abbrev pub invariant-some_missed-loop-entry : goal.invariant-some_missed-loop-entry
invariant-some_missed-loop-entry l = SomeMissed l.entries l.others ↔ SomeMissed (drop l.entry-index l.entries) l.others

abbrev pub invariant-pair_misses-loop-entry : goal.invariant-pair_misses-loop-entry
invariant-pair_misses-loop-entry l =
    Each (EntryMisses l.field.key.kind l.field.value.kind (CutAmong l.entries l.field.key.kind)) l.entries ↔ Each (EntryMisses l.field.key.kind l.field.value.kind (CutAmong l.entries l.field.key.kind)) (drop l.entry-index l.entries)

abbrev pub invariant-ways_miss-loop-way : goal.invariant-ways_miss-loop-way
invariant-ways_miss-loop-way l = WaysMissPair l.field.key.kind l.field.value.kind l.ways ↔ WaysMissPair l.field.key.kind l.field.value.kind (drop l.way-index l.ways)

abbrev pub invariant-fields_miss-loop-entry : goal.invariant-fields_miss-loop-entry
invariant-fields_miss-loop-entry l = FieldsMissPair l.field.key.kind l.field.value.kind l.entries ↔ FieldsMissPair l.field.key.kind l.field.value.kind (drop l.entry-index l.entries)
