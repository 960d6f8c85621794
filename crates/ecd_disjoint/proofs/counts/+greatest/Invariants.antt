use Rattle.ecd_core.specs.declared.shape.Way.{Way}
use Rattle.ecd_apart.specs.Counts.{part_greatest}
use Rattle.ecd_disjoint.specs.Counts.{items_greatest}
use Rattle.ecd_disjoint.proofs.Sums.{SumSo, GreatestSo}
use Rattle.ecd_disjoint.proofs.counts.+greatest.Given as goal

abbrev pub invariant-greatest_items-loop-part : goal.invariant-greatest_items-loop-part
invariant-greatest_items-loop-part l = SumSo part_greatest l.parts l.part-index l.count

abbrev pub invariant-greatest_way-loop-way : goal.invariant-greatest_way-loop-way
invariant-greatest_way-loop-way l = GreatestSo (λ (way : Way). items_greatest way.body.parts) l.ways l.way-index l.count
