use Rattle.ecd_core.specs.declared.shape.Way.{Way}
use Rattle.ecd_apart.specs.Counts.{part_least}
use Rattle.ecd_disjoint.specs.Counts.{items_least}
use Rattle.ecd_disjoint.proofs.Sums.{SumSo, LeastSo}
use Rattle.ecd_disjoint.proofs.counts.+least.Given as goal

abbrev pub invariant-least_items-loop-part : goal.invariant-least_items-loop-part
invariant-least_items-loop-part l = SumSo part_least l.parts l.part-index l.count

abbrev pub invariant-least_way-loop-way : goal.invariant-least_way-loop-way
invariant-least_way-loop-way l = LeastSo (λ (way : Way). items_least way.body.parts) l.ways l.way-index l.count
