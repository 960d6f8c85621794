use Rattle.ecd_core.specs.declared.shape.MapWay.{MapWay}
use Rattle.ecd_disjoint.specs.Counts.{fields_in_way}
use Rattle.ecd_disjoint.proofs.Sums.{GreatestSo}
use Rattle.ecd_disjoint.proofs.map_counts.greatest_way.Given as goal

abbrev pub invariant-loop-way : goal.invariant-loop-way
invariant-loop-way l = GreatestSo (λ (way : MapWay). fields_in_way way.entries) l.ways l.way-index l.count
