use Rattle.std.proofs.Common.{◌≡◌, drop}
use Rattle.ecd_shape_rules.specs.Listed.{are_emptiable, some_is_emptiable}
use Rattle.ecd_starts.proofs.emptiable.+emptiable.Given as goal

abbrev pub invariant-are_emptiable-loop-part : goal.invariant-are_emptiable-loop-part
invariant-are_emptiable-loop-part l = are_emptiable l.parts ≡ are_emptiable (drop l.part-index l.parts)

abbrev pub invariant-some_is_emptiable-loop-way : goal.invariant-some_is_emptiable-loop-way
invariant-some_is_emptiable-loop-way l = some_is_emptiable l.ways ≡ some_is_emptiable (drop l.way-index l.ways)
