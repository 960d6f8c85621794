use Rattle.ecd_apart.specs.Counts.{entry_greatest}
use Rattle.ecd_disjoint.proofs.Sums.{sum_start, sum_more, sum_end}
use Rattle.ecd_disjoint.proofs.map_counts.greatest_pairs.Goals as goal

pub loop-entry-init : goal.loop-entry-init
loop-entry-init c = sum_start entry_greatest c.args.entries.now

pub loop-entry-preserved : goal.loop-entry-preserved
loop-entry-preserved c =
    sum_more entry_greatest c.args.entries.now c.loop-entry.entry-index c.entry-item.result c.loop-entry.count c.greatest_of.result c.saturating_add-count.result c.loop-entry-test.true c.entry-item.is c.greatest_of.ensures c.saturating_add-count.ensures c.loop-entry.invariant

pub returns : goal.returns
returns c = sum_end entry_greatest c.args.entries.now c.loop-entry.entry-index c.loop-entry.count c.loop-entry-test.false c.loop-entry.invariant
