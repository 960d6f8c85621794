use Rattle.std.proofs.Common.{arith}
use Rattle.ecd_item_laws.specs.Valid.{IsWhole, IsWholePair}
use Rattle.ecd_item.proofs.Whole.{all_more, all_done, uint_tells, nint_tells, bytes_tells, text_tells, low_tells, high_tells, array_tells, map_tells, tag_tells, deep_array, deep_map, deep_tag, pairs_end, pairs_whole}
use Rattle.ecd_item.proofs.valid.+validating.Goals as goal

pub are_valid-loop-item-preserved : goal.are_valid-loop-item-preserved
are_valid-loop-item-preserved t c =
    all_more (IsWhole c.args.order c.args.depth) c.args.items.now c.loop-item.item-index c.item-item.result c.loop-item-test.true c.item-item.is c.loop-item.invariant (c.is_valid.ensures.0 c.if-not-is_valid.false)

pub are_valid-returns : goal.are_valid-returns
are_valid-returns t c =
    all_done (IsWhole c.args.order c.args.depth) c.args.items.now c.loop-item.item-index c.loop-item-test.false c.loop-item.invariant

pub are_pairs_valid-loop-pair-preserved : goal.are_pairs_valid-loop-pair-preserved
are_pairs_valid-loop-pair-preserved t c =
    all_more (IsWholePair c.args.order c.args.depth) c.args.pairs.now c.loop-pair.pair-index c.pair-item.result c.loop-pair-test.true c.pair-item.is c.loop-pair.invariant (c.is_valid.ensures.0 c.if-not-is_valid.false, c.is_valid-in-loop-pair.ensures.0 c.if-not-is_valid-2.false)

pub are_pairs_valid-keys_ascend-requires : goal.are_pairs_valid-keys_ascend-requires
are_pairs_valid-keys_ascend-requires t c =
    pairs_whole c.args.order c.args.depth 64 c.args.pairs.now c.loop-pair.pair-index c.requires c.loop-pair-test.false c.loop-pair.invariant

pub are_pairs_valid-returns : goal.are_pairs_valid-returns
are_pairs_valid-returns t c =
    pairs_end c.args.order c.args.depth c.args.pairs.now c.loop-pair.pair-index c.keys_ascend.result c.loop-pair-test.false c.loop-pair.invariant c.keys_ascend.ensures

pub is_valid-returns-in-Uint : goal.is_valid-returns-in-Uint
is_valid-returns-in-Uint t c =
    uint_tells c.args.order c.args.depth c.in-Uint.n c.args.item.now c.in-Uint.is (omega arith)

pub is_valid-returns-in-Nint : goal.is_valid-returns-in-Nint
is_valid-returns-in-Nint t c =
    nint_tells c.args.order c.args.depth c.in-Nint.n c.args.item.now c.in-Nint.is (omega arith)

pub is_valid-returns-in-Bytes : goal.is_valid-returns-in-Bytes
is_valid-returns-in-Bytes t c =
    bytes_tells c.args.order c.args.depth c.in-Bytes.bytes c.args.item.now c.in-Bytes.is (omega (arith, c.len-length.ensures))

pub is_valid-returns-in-Text : goal.is_valid-returns-in-Text
is_valid-returns-in-Text t c =
    text_tells c.args.order c.args.depth c.in-Text.bytes c.as_slice.result.now c.args.item.now c.is_text.result c.in-Text.is c.as_slice.ensures (omega arith) c.is_text.ensures

pub is_valid-returns-then-n-lt24 : goal.is_valid-returns-then-n-lt24
is_valid-returns-then-n-lt24 t c =
    low_tells c.args.order c.args.depth c.in-Simple.n c.args.item.now c.in-Simple.is c.if-n-lt24.true

pub is_valid-returns-else-n-lt24 : goal.is_valid-returns-else-n-lt24
is_valid-returns-else-n-lt24 t c =
    high_tells c.args.order c.args.depth c.in-Simple.n c.args.item.now c.in-Simple.is c.if-n-lt24.false (omega arith)

pub is_valid-returns-then-depth-gt0 : goal.is_valid-returns-then-depth-gt0
is_valid-returns-then-depth-gt0 t c =
    array_tells c.args.order c.args.depth c.in-Array.items c.as_slice-then-depth-gt0.result.now c.args.item.now c.are_valid.result c.in-Array.is c.as_slice-then-depth-gt0.ensures (omega arith) c.if-depth-gt0.true c.are_valid.ensures

pub is_valid-returns-else-depth-gt0 : goal.is_valid-returns-else-depth-gt0
is_valid-returns-else-depth-gt0 t c =
    deep_array c.args.order c.args.depth c.in-Array.items c.args.item.now c.in-Array.is c.if-depth-gt0.false

pub is_valid-returns-then-depth-gt0-2 : goal.is_valid-returns-then-depth-gt0-2
is_valid-returns-then-depth-gt0-2 t c =
    map_tells c.args.order c.args.depth c.in-Map.pairs c.as_slice-then-depth-gt0-2.result.now c.args.item.now c.are_pairs_valid.result c.in-Map.is c.as_slice-then-depth-gt0-2.ensures (omega arith) c.if-depth-gt0-2.true c.are_pairs_valid.ensures

pub is_valid-returns-else-depth-gt0-2 : goal.is_valid-returns-else-depth-gt0-2
is_valid-returns-else-depth-gt0-2 t c =
    deep_map c.args.order c.args.depth c.in-Map.pairs c.args.item.now c.in-Map.is c.if-depth-gt0-2.false

pub is_valid-returns-then-depth-gt0-3 : goal.is_valid-returns-then-depth-gt0-3
is_valid-returns-then-depth-gt0-3 t c =
    tag_tells c.args.order c.args.depth c.in-Tag.number c.in-Tag.inner c.get.result.now c.args.item.now c.is_valid.result c.in-Tag.is c.get.ensures (omega arith) c.if-depth-gt0-3.true c.is_valid.ensures

pub is_valid-returns-else-depth-gt0-3 : goal.is_valid-returns-else-depth-gt0-3
is_valid-returns-else-depth-gt0-3 t c =
    deep_tag c.args.order c.args.depth c.in-Tag.number c.in-Tag.inner c.args.item.now c.in-Tag.is c.if-depth-gt0-3.false
