use Rattle.ecd_disjoint.specs.Counts.{field_pairs}
use Rattle.ecd_disjoint.proofs.Sums.{sum_start, sum_more, sum_end}
use Rattle.ecd_disjoint.proofs.map_counts.all_fields.Goals as goal

pub loop-entry-init : goal.loop-entry-init
loop-entry-init c = sum_start field_pairs c.args.entries.now

pub loop-entry-preserved : goal.loop-entry-preserved
loop-entry-preserved c =
    sum_more field_pairs c.args.entries.now c.loop-entry.entry-index c.entry-item.result c.loop-entry.count c.field_of.result c.saturating_add-count.result c.loop-entry-test.true c.entry-item.is c.field_of.ensures c.saturating_add-count.ensures c.loop-entry.invariant

pub returns : goal.returns
returns c = sum_end field_pairs c.args.entries.now c.loop-entry.entry-index c.loop-entry.count c.loop-entry-test.false c.loop-entry.invariant
