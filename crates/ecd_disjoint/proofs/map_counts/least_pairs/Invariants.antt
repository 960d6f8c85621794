use Rattle.ecd_apart.specs.Counts.{entry_least}
use Rattle.ecd_disjoint.proofs.Sums.{SumSo}
use Rattle.ecd_disjoint.proofs.map_counts.least_pairs.Given as goal

abbrev pub invariant-loop-entry : goal.invariant-loop-entry
invariant-loop-entry l = SumSo entry_least l.entries l.entry-index l.count
