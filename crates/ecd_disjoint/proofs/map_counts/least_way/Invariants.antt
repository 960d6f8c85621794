use Rattle.ecd_core.specs.declared.shape.MapWay.{MapWay}
use Rattle.ecd_disjoint.specs.Counts.{needed_in_way}
use Rattle.ecd_disjoint.proofs.Sums.{LeastSo}
use Rattle.ecd_disjoint.proofs.map_counts.least_way.Given as goal

abbrev pub invariant-loop-way : goal.invariant-loop-way
invariant-loop-way l = LeastSo (λ (way : MapWay). needed_in_way way.entries) l.ways l.way-index l.count
