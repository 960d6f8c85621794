use Rattle.std.proofs.Common.{◌≡◌, ◌↔◌, drop, length}
use Rattle.ecd_alike.specs.Pairs.{ShapesMatch, PartsMatch, WaysMatch, EntriesMatch, MapWaysMatch}
use Rattle.ecd_alike.proofs.alike.+alike.Given as goal

abbrev pub invariant-shapes_alike-loop-index : goal.invariant-shapes_alike-loop-index
invariant-shapes_alike-loop-index l = ShapesMatch l.a l.b ↔ ShapesMatch (drop l.index l.a) (drop l.index l.b)

abbrev pub invariant-parts_alike-loop-index : goal.invariant-parts_alike-loop-index
invariant-parts_alike-loop-index l = PartsMatch l.a l.b ↔ PartsMatch (drop l.index l.a) (drop l.index l.b)

abbrev pub invariant-ways_alike-loop-index : goal.invariant-ways_alike-loop-index
invariant-ways_alike-loop-index l = WaysMatch l.a l.b ↔ WaysMatch (drop l.index l.a) (drop l.index l.b)

abbrev pub invariant-entries_alike-loop-index : goal.invariant-entries_alike-loop-index
invariant-entries_alike-loop-index l = EntriesMatch l.a l.b ↔ EntriesMatch (drop l.index l.a) (drop l.index l.b)

abbrev pub invariant-map_ways_alike-loop-index : goal.invariant-map_ways_alike-loop-index
invariant-map_ways_alike-loop-index l = MapWaysMatch l.a l.b ↔ MapWaysMatch (drop l.index l.a) (drop l.index l.b)
