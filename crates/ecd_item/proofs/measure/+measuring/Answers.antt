use Rattle.std.proofs.Common.{◌+◌, ◌∙◌, ℕ, ap, length, subst}
use Rattle.ecd_head.specs.Head.{head_bytes}
use Rattle.ecd_item.proofs.Lengths.{uint_more, nint_more, simple_more, bytes_more, text_more, array_more, map_more, tag_more, items_more, pairs_more}
use Rattle.ecd_item.proofs.measure.+measuring.Goals as goal

pub measure-returns-in-Uint : goal.measure-returns-in-Uint
measure-returns-in-Uint g t c = λ sum so_far.
    subst (g.T.Tally.counts c.add.new.self) (uint_more c.args.item.now c.in-Uint.n c.head_length.result sum c.in-Uint.is (c.head_length.ensures.sized 0)) (c.add.ensures sum so_far)

pub measure-returns-in-Nint : goal.measure-returns-in-Nint
measure-returns-in-Nint g t c = λ sum so_far.
    subst (g.T.Tally.counts c.add-in-Nint.new.self) (nint_more c.args.item.now c.in-Nint.n c.head_length-in-Nint.result sum c.in-Nint.is (c.head_length-in-Nint.ensures.sized 1)) (c.add-in-Nint.ensures sum so_far)

pub measure-returns-in-Simple : goal.measure-returns-in-Simple
measure-returns-in-Simple g t c = λ sum so_far.
    subst (g.T.Tally.counts c.add-in-Simple.new.self) (simple_more c.args.item.now c.in-Simple.n c.head_length-in-Simple.result sum c.in-Simple.is (c.head_length-in-Simple.ensures.sized 7)) (c.add-in-Simple.ensures sum so_far)

pub measure-returns-in-Bytes : goal.measure-returns-in-Bytes
measure-returns-in-Bytes g t c = λ sum so_far.
    subst (g.T.Tally.counts c.measure_string.new.total) (bytes_more c.args.item.now c.in-Bytes.bytes c.as_slice.result.now sum c.in-Bytes.is c.as_slice.ensures) (c.measure_string.ensures 2 sum so_far)

pub measure-returns-in-Text : goal.measure-returns-in-Text
measure-returns-in-Text g t c = λ sum so_far.
    subst (g.T.Tally.counts c.measure_string-in-Text.new.total) (text_more c.args.item.now c.in-Text.bytes c.as_slice-in-Text.result.now sum c.in-Text.is c.as_slice-in-Text.ensures) (c.measure_string-in-Text.ensures 3 sum so_far)

pub measure-returns-in-Array : goal.measure-returns-in-Array
measure-returns-in-Array g t c = λ sum so_far.
    let head = c.head_length-in-Array.ensures.sized 4 ∙ ap (λ (n : ℕ). length (head_bytes 4 n)) c.len.ensures in
    subst (g.T.Tally.counts c.measure_items.new.total) (array_more c.args.item.now c.in-Array.items c.as_slice-in-Array.result.now c.head_length-in-Array.result sum c.in-Array.is c.as_slice-in-Array.ensures head)
    (c.measure_items.ensures (sum + c.head_length-in-Array.result) (c.add-in-Array.ensures sum so_far))

pub measure-returns-in-Map : goal.measure-returns-in-Map
measure-returns-in-Map g t c = λ sum so_far.
    let head = c.head_length-in-Map.ensures.sized 5 ∙ ap (λ (n : ℕ). length (head_bytes 5 n)) c.len-in-Map.ensures in
    subst (g.T.Tally.counts c.measure_pairs.new.total) (map_more c.args.item.now c.in-Map.pairs c.as_slice-in-Map.result.now c.head_length-in-Map.result sum c.in-Map.is c.as_slice-in-Map.ensures head)
    (c.measure_pairs.ensures (sum + c.head_length-in-Map.result) (c.add-in-Map.ensures sum so_far))

pub measure-returns-in-Tag : goal.measure-returns-in-Tag
measure-returns-in-Tag g t c = λ sum so_far.
    subst (g.T.Tally.counts c.measure.new.total) (tag_more c.args.item.now c.in-Tag.n c.in-Tag.inner c.get.result.now c.head_length-in-Tag.result sum c.in-Tag.is c.get.ensures (c.head_length-in-Tag.ensures.sized 6))
    (c.measure.ensures (sum + c.head_length-in-Tag.result) (c.add-in-Tag.ensures sum so_far))

pub measure_items-loop-item-preserved : goal.measure_items-loop-item-preserved
measure_items-loop-item-preserved g t c = λ sum so_far.
    subst (g.T.Tally.counts c.measure.new.total) (items_more c.args.items.now c.loop-item.item-index c.item-item.result sum c.loop-item-test.true c.item-item.is)
    (c.measure.ensures _ (c.loop-item.invariant sum so_far))

pub measure_pairs-loop-pair-preserved : goal.measure_pairs-loop-pair-preserved
measure_pairs-loop-pair-preserved g t c = λ sum so_far.
    subst (g.T.Tally.counts c.measure-in-loop-pair.new.total) (pairs_more c.args.pairs.now c.loop-pair.pair-index c.pair-item.result sum c.loop-pair-test.true c.pair-item.is)
    (c.measure-in-loop-pair.ensures _ (c.measure.ensures _ (c.loop-pair.invariant sum so_far)))
