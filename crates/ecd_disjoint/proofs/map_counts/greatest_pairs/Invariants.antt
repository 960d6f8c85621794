use Rattle.ecd_apart.specs.Counts.{entry_greatest}
use Rattle.ecd_disjoint.proofs.Sums.{SumSo}
use Rattle.ecd_disjoint.proofs.map_counts.greatest_pairs.Given as goal

abbrev pub invariant-loop-entry : goal.invariant-loop-entry
invariant-loop-entry l = SumSo entry_greatest l.entries l.entry-index l.count
