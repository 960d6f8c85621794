use Rattle.ecd_disjoint.specs.Counts.{needed_pairs}
use Rattle.ecd_disjoint.proofs.Sums.{SumSo}
use Rattle.ecd_disjoint.proofs.map_counts.needed_fields.Given as goal

abbrev pub invariant-loop-entry : goal.invariant-loop-entry
invariant-loop-entry l = SumSo needed_pairs l.entries l.entry-index l.count
