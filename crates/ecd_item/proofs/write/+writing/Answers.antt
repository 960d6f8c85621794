use Rattle.std.proofs.Common.{ap, arith, length, rules}
use Rattle.ecd_head.specs.Head.{head_bytes}
use Rattle.ecd_item_laws.specs.Encoding.{encoding}
use Rattle.ecd_item_laws.specs.declared.item.Item.{the_lemmas}
use Rattle.ecd_item_laws.proofs.Layers.{encoding-Array, encoding-Map, encoding-Tag, valid_Tag}
use Rattle.ecd_item_laws.specs.Encoding.{pair_bytes}
use Rattle.ecd_item.proofs.Emitting.{Emits-then, head_room, piece_room, piece_next, piece_done, simple_writable, item_valid, pair_valid, key_room, value_room}
use Rattle.ecd_item.proofs.write.+writing.Goals as goal

pub emit_array-emit_head-here-requires-clause-room : goal.emit_array-emit_head-here-requires-clause-room
emit_array-emit_head-here-requires-clause-room t c = head_room c.args.into.now c.args.at _ _ _ (encoding-Array c.args.items.now) c.requires.room

pub emit_array-emit-here-requires : goal.emit_array-emit-here-requires
emit_array-emit-here-requires t c = (
  search (rules, the_lemmas),
  (
    (c.requires.valid.0, item_valid c.requires.valid.0 c.args.items.now c.loop-item.item-index c.item-item.result c.loop-item-test.true c.item-item.is c.requires.valid.1),
    piece_room encoding c.args.items.now c.loop-item.item-index c.item-item.result _ _ c.args.into.now c.loop-item.into c.args.at c.loop-item.here c.loop-item-test.true c.item-item.is (encoding-Array c.args.items.now) c.requires.room c.loop-item.invariant,
  ),
)

pub emit_array-loop-item-preserved : goal.emit_array-loop-item-preserved
emit_array-loop-item-preserved t c =
    piece_next encoding c.args.items.now c.loop-item.item-index c.item-item.result (head_bytes 4 (length c.args.items.now)) c.args.into.now c.loop-item.into c.emit-here.new.into c.args.at c.loop-item.here c.emit-here.result c.loop-item-test.true c.item-item.is c.loop-item.invariant c.emit-here.ensures

pub emit_array-returns : goal.emit_array-returns
emit_array-returns t c =
    piece_done encoding c.args.items.now c.loop-item.item-index (head_bytes 4 (length c.args.items.now)) _ c.args.into.now c.loop-item.into c.args.at c.loop-item.here c.loop-item-test.false (encoding-Array c.args.items.now) c.loop-item.invariant

pub emit_map-emit_head-here-requires-clause-room : goal.emit_map-emit_head-here-requires-clause-room
emit_map-emit_head-here-requires-clause-room t c = head_room c.args.into.now c.args.at _ _ _ (encoding-Map c.args.pairs.now) c.requires.room

pub emit_map-emit-here-requires : goal.emit_map-emit-here-requires
emit_map-emit-here-requires t c =
    let v = pair_valid c.requires.valid.0 c.args.pairs.now c.loop-pair.pair-index c.pair-item.result c.loop-pair-test.true c.pair-item.is c.requires.valid.1 in
    let r = piece_room pair_bytes c.args.pairs.now c.loop-pair.pair-index c.pair-item.result _ _ c.args.into.now c.loop-pair.into c.args.at c.loop-pair.here c.loop-pair-test.true c.pair-item.is (encoding-Map c.args.pairs.now) c.requires.room c.loop-pair.invariant in
    (search (rules, the_lemmas), ((c.requires.valid.0, v.0), key_room (encoding c.pair-item.result.key) (encoding c.pair-item.result.value) c.loop-pair.into c.loop-pair.here r))

pub emit_map-emit-here-requires-in-loop-pair : goal.emit_map-emit-here-requires-in-loop-pair
emit_map-emit-here-requires-in-loop-pair t c =
    let v = pair_valid c.requires.valid.0 c.args.pairs.now c.loop-pair.pair-index c.pair-item.result c.loop-pair-test.true c.pair-item.is c.requires.valid.1 in
    let r = piece_room pair_bytes c.args.pairs.now c.loop-pair.pair-index c.pair-item.result _ _ c.args.into.now c.loop-pair.into c.args.at c.loop-pair.here c.loop-pair-test.true c.pair-item.is (encoding-Map c.args.pairs.now) c.requires.room c.loop-pair.invariant in
    (search (rules, the_lemmas), ((c.requires.valid.0, v.1), value_room (encoding c.pair-item.result.key) (encoding c.pair-item.result.value) c.loop-pair.into c.emit-here.new.into c.loop-pair.here c.emit-here.result r c.emit-here.ensures))

pub emit_map-loop-pair-preserved : goal.emit_map-loop-pair-preserved
emit_map-loop-pair-preserved t c =
    piece_next pair_bytes c.args.pairs.now c.loop-pair.pair-index c.pair-item.result (head_bytes 5 (length c.args.pairs.now)) c.args.into.now c.loop-pair.into c.emit-here-in-loop-pair.new.into c.args.at c.loop-pair.here c.emit-here-in-loop-pair.result c.loop-pair-test.true c.pair-item.is c.loop-pair.invariant
    (Emits-then c.loop-pair.into c.loop-pair.here _ c.emit-here.new.into c.emit-here.result _ c.emit-here-in-loop-pair.new.into c.emit-here-in-loop-pair.result c.emit-here.ensures c.emit-here-in-loop-pair.ensures)

pub emit_map-returns : goal.emit_map-returns
emit_map-returns t c =
    piece_done pair_bytes c.args.pairs.now c.loop-pair.pair-index (head_bytes 5 (length c.args.pairs.now)) _ c.args.into.now c.loop-pair.into c.args.at c.loop-pair.here c.loop-pair-test.false (encoding-Map c.args.pairs.now) c.loop-pair.invariant

pub emit_tag-emit-requires : goal.emit_tag-emit-requires
emit_tag-emit-requires t c =
    (search (rules, the_lemmas), ((c.requires.valid.0, (valid_Tag c.requires.valid.0 c.args.number c.args.inner.now c.requires.valid.1).1), value_room (head_bytes 6 c.args.number) (encoding c.args.inner.now) c.args.into.now c.emit_head-here.new.into c.args.at c.emit_head-here.result (omega (arith, ap length (encoding-Tag c.args.number c.args.inner.now), c.requires.room)) c.emit_head-here.ensures))

pub emit_tag-returns : goal.emit_tag-returns
emit_tag-returns t c = rw (encoding-Tag c.args.number c.args.inner.now) (Emits-then c.args.into.now c.args.at _ c.emit_head-here.new.into c.emit_head-here.result _ c.emit.new.into c.emit.result c.emit_head-here.ensures c.emit.ensures)

pub emit-emit_head-requires-in-Simple-clause-writable : goal.emit-emit_head-requires-in-Simple-clause-writable
emit-emit_head-requires-in-Simple-clause-writable t c = simple_writable c.requires.valid.0 c.args.item.now c.in-Simple.n c.in-Simple.is c.requires.valid.1

pub emit_tag-emit_head-here-requires-clause-room : goal.emit_tag-emit_head-here-requires-clause-room
emit_tag-emit_head-here-requires-clause-room t c = head_room c.args.into.now c.args.at _ _ _ (encoding-Tag c.args.number c.args.inner.now) c.requires.room
