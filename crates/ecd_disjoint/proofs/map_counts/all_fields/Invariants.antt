use Rattle.ecd_disjoint.specs.Counts.{field_pairs}
use Rattle.ecd_disjoint.proofs.Sums.{SumSo}
use Rattle.ecd_disjoint.proofs.map_counts.all_fields.Given as goal

abbrev pub invariant-loop-entry : goal.invariant-loop-entry
invariant-loop-entry l = SumSo field_pairs l.entries l.entry-index l.count
