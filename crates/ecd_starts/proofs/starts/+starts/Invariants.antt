use Rattle.std.proofs.Common.{◌≡◌, drop, ◌++◌}
use Rattle.ecd_shape_rules.specs.Listed.{starts_of, ways_start}
use Rattle.ecd_starts.specs.Kinds.{kinds_of}
use Rattle.ecd_starts.proofs.starts.+starts.Given as goal

abbrev pub invariant-push_starts-loop-part : goal.invariant-push_starts-loop-part
invariant-push_starts-loop-part l = kinds_of l.starts.items ++ starts_of (drop l.part-index l.parts) ≡ kinds_of l.initial.starts.items ++ starts_of l.parts

abbrev pub invariant-push_ways-loop-way : goal.invariant-push_ways-loop-way
invariant-push_ways-loop-way l = kinds_of l.starts.items ++ ways_start (drop l.way-index l.ways) ≡ kinds_of l.initial.starts.items ++ ways_start l.ways
