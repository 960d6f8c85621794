use Rattle.std.proofs.Common.{ℕ, ◌+◌, length, take, map}
use Rattle.ecd_item_laws.specs.Encoding.{encoding, pair_bytes, joined}
use Rattle.ecd_item.proofs.measure.+measuring.Given as goal

abbrev pub invariant-measure_items-loop-item : goal.invariant-measure_items-loop-item
invariant-measure_items-loop-item g l = (sum : ℕ) → g.T.Tally.counts l.fn.total sum → g.T.Tally.counts l.total (sum + length (joined (map encoding (take l.item-index l.items))))

abbrev pub invariant-measure_pairs-loop-pair : goal.invariant-measure_pairs-loop-pair
invariant-measure_pairs-loop-pair g l = (sum : ℕ) → g.T.Tally.counts l.fn.total sum → g.T.Tally.counts l.total (sum + length (joined (map pair_bytes (take l.pair-index l.pairs))))
