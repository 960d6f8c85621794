use Rattle.ecd_core.specs.declared.shape.MapWay.{MapWay}
use Rattle.ecd_disjoint.specs.Counts.{needed_in_way}
use Rattle.ecd_disjoint.proofs.Sums.{least_start}
use Rattle.ecd_disjoint.proofs.map_counts.least_way.Goals as goal

pub loop-way-init : goal.loop-way-init
loop-way-init c = least_start (λ (way : MapWay). needed_in_way way.entries) c.args.ways.now
