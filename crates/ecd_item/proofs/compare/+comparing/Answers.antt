use Rattle.std.proofs.Common.{◌∙◌, sym, rules, arith, refl}
use Rattle.ecd_item_laws.specs.Encoding.{encoding, pair_bytes}
use Rattle.ecd_item_laws.specs.Valid.{IsValid, IsValidPair}
use Rattle.ecd_item_laws.specs.declared.item.Item.{the_lemmas}
use Rattle.ecd_item.proofs.Comparing.{heads_differ, heads_same, writable_as, uint_arm, nint_arm, simple_arm, bytes_arm, text_arm, array_arm, array_needs, map_arm, map_needs, tag_arm, tag_needs, tag_none, items_apart, pairs_apart, keys_decide, values_decide, differ_at, same_at, same_all, valid_at, not_ne}
use Rattle.ecd_item.proofs.compare.+comparing.Goals as goal

pub compare_encodings-compare_heads-heads-requires-clause-one_writable : goal.compare_encodings-compare_heads-heads-requires-clause-one_writable
compare_encodings-compare_heads-heads-requires-clause-one_writable t c = writable_as c.requires.0 c.args.one.now c.head_of.result c.head_of.ensures c.requires.1

pub compare_encodings-compare_heads-heads-requires-clause-other_writable : goal.compare_encodings-compare_heads-heads-requires-clause-other_writable
compare_encodings-compare_heads-heads-requires-clause-other_writable t c = writable_as c.requires.0 c.args.other.now c.head_of-2.result c.head_of-2.ensures c.requires.2

pub compare_encodings-returns-then-is_ne : goal.compare_encodings-returns-then-is_ne
compare_encodings-returns-then-is_ne t c =
    heads_differ c.requires.0 c.args.one.now c.args.other.now c.head_of.result c.head_of-2.result c.compare_heads-heads.result c.head_of.ensures c.head_of-2.ensures c.requires.1 c.requires.2 c.compare_heads-heads.ensures (sym c.is_ne.ensures ∙ c.if-is_ne.true)

pub compare_encodings-compare_items-requires : goal.compare_encodings-compare_items-requires
compare_encodings-compare_items-requires t c =
    let same = heads_same c.requires.0 c.args.one.now c.args.other.now c.head_of.result c.head_of-2.result c.compare_heads-heads.result c.head_of.ensures c.head_of-2.ensures c.requires.1 c.requires.2 c.compare_heads-heads.ensures (sym c.is_ne.ensures ∙ c.if-is_ne.false) in
    let n = array_needs c.requires.0 c.args.one.now c.args.other.now c.in-Array.items c.as_slice-in-Array.result.now c.items_of.result.now c.in-Array.is c.as_slice-in-Array.ensures c.items_of.ensures c.requires.1 c.requires.2 same in
    (search (rules, the_lemmas), (n.0, (c.requires.0, n.1, n.2)))

pub compare_encodings-compare_pairs-requires : goal.compare_encodings-compare_pairs-requires
compare_encodings-compare_pairs-requires t c =
    let same = heads_same c.requires.0 c.args.one.now c.args.other.now c.head_of.result c.head_of-2.result c.compare_heads-heads.result c.head_of.ensures c.head_of-2.ensures c.requires.1 c.requires.2 c.compare_heads-heads.ensures (sym c.is_ne.ensures ∙ c.if-is_ne.false) in
    let n = map_needs c.requires.0 c.args.one.now c.args.other.now c.in-Map.pairs c.as_slice-in-Map.result.now c.pairs_of.result.now c.in-Map.is c.as_slice-in-Map.ensures c.pairs_of.ensures c.requires.1 c.requires.2 same in
    (search (rules, the_lemmas), (n.0, (c.requires.0, n.1, n.2)))

pub compare_encodings-compare_encodings-requires : goal.compare_encodings-compare_encodings-requires
compare_encodings-compare_encodings-requires t c =
    let same = heads_same c.requires.0 c.args.one.now c.args.other.now c.head_of.result c.head_of-2.result c.compare_heads-heads.result c.head_of.ensures c.head_of-2.ensures c.requires.1 c.requires.2 c.compare_heads-heads.ensures (sym c.is_ne.ensures ∙ c.if-is_ne.false) in
    let n = tag_needs c.requires.0 c.args.one.now c.args.other.now c.in-Tag.field-0 c.in-Tag.inner c.get.result.now c.in-Some.enclosed.now c.in-Tag.is c.get.ensures c.in-Some.ensures c.requires.1 c.requires.2 same in
    (search (rules, the_lemmas), (c.requires.0, n.0, n.1))

pub compare_encodings-returns-in-Uint : goal.compare_encodings-returns-in-Uint
compare_encodings-returns-in-Uint t c =
    let same = heads_same c.requires.0 c.args.one.now c.args.other.now c.head_of.result c.head_of-2.result c.compare_heads-heads.result c.head_of.ensures c.head_of-2.ensures c.requires.1 c.requires.2 c.compare_heads-heads.ensures (sym c.is_ne.ensures ∙ c.if-is_ne.false) in
    uint_arm c.args.one.now c.args.other.now c.in-Uint.field-0 c.in-Uint.is same

pub compare_encodings-returns-in-Nint : goal.compare_encodings-returns-in-Nint
compare_encodings-returns-in-Nint t c =
    let same = heads_same c.requires.0 c.args.one.now c.args.other.now c.head_of.result c.head_of-2.result c.compare_heads-heads.result c.head_of.ensures c.head_of-2.ensures c.requires.1 c.requires.2 c.compare_heads-heads.ensures (sym c.is_ne.ensures ∙ c.if-is_ne.false) in
    nint_arm c.args.one.now c.args.other.now c.in-Nint.field-0 c.in-Nint.is same

pub compare_encodings-returns-in-Simple : goal.compare_encodings-returns-in-Simple
compare_encodings-returns-in-Simple t c =
    let same = heads_same c.requires.0 c.args.one.now c.args.other.now c.head_of.result c.head_of-2.result c.compare_heads-heads.result c.head_of.ensures c.head_of-2.ensures c.requires.1 c.requires.2 c.compare_heads-heads.ensures (sym c.is_ne.ensures ∙ c.if-is_ne.false) in
    simple_arm c.args.one.now c.args.other.now c.in-Simple.field-0 c.in-Simple.is same

pub compare_encodings-returns-in-Bytes : goal.compare_encodings-returns-in-Bytes
compare_encodings-returns-in-Bytes t c =
    let same = heads_same c.requires.0 c.args.one.now c.args.other.now c.head_of.result c.head_of-2.result c.compare_heads-heads.result c.head_of.ensures c.head_of-2.ensures c.requires.1 c.requires.2 c.compare_heads-heads.ensures (sym c.is_ne.ensures ∙ c.if-is_ne.false) in
    bytes_arm c.args.one.now c.args.other.now c.in-Bytes.bytes c.as_slice.result.now c.string_of.result.now c.compare.result c.in-Bytes.is c.as_slice.ensures c.string_of.ensures c.compare.ensures same

pub compare_encodings-returns-in-Text : goal.compare_encodings-returns-in-Text
compare_encodings-returns-in-Text t c =
    let same = heads_same c.requires.0 c.args.one.now c.args.other.now c.head_of.result c.head_of-2.result c.compare_heads-heads.result c.head_of.ensures c.head_of-2.ensures c.requires.1 c.requires.2 c.compare_heads-heads.ensures (sym c.is_ne.ensures ∙ c.if-is_ne.false) in
    text_arm c.args.one.now c.args.other.now c.in-Text.bytes c.as_slice-in-Text.result.now c.string_of-in-Text.result.now c.compare-in-Text.result c.in-Text.is c.as_slice-in-Text.ensures c.string_of-in-Text.ensures c.compare-in-Text.ensures same

pub compare_encodings-returns-in-Array : goal.compare_encodings-returns-in-Array
compare_encodings-returns-in-Array t c =
    let same = heads_same c.requires.0 c.args.one.now c.args.other.now c.head_of.result c.head_of-2.result c.compare_heads-heads.result c.head_of.ensures c.head_of-2.ensures c.requires.1 c.requires.2 c.compare_heads-heads.ensures (sym c.is_ne.ensures ∙ c.if-is_ne.false) in
    array_arm c.args.one.now c.args.other.now c.in-Array.items c.as_slice-in-Array.result.now c.items_of.result.now c.compare_items.result c.in-Array.is c.as_slice-in-Array.ensures c.items_of.ensures c.compare_items.ensures same

pub compare_encodings-returns-in-Map : goal.compare_encodings-returns-in-Map
compare_encodings-returns-in-Map t c =
    let same = heads_same c.requires.0 c.args.one.now c.args.other.now c.head_of.result c.head_of-2.result c.compare_heads-heads.result c.head_of.ensures c.head_of-2.ensures c.requires.1 c.requires.2 c.compare_heads-heads.ensures (sym c.is_ne.ensures ∙ c.if-is_ne.false) in
    map_arm c.args.one.now c.args.other.now c.in-Map.pairs c.as_slice-in-Map.result.now c.pairs_of.result.now c.compare_pairs.result c.in-Map.is c.as_slice-in-Map.ensures c.pairs_of.ensures c.compare_pairs.ensures same

pub compare_encodings-returns-in-Some : goal.compare_encodings-returns-in-Some
compare_encodings-returns-in-Some t c =
    let same = heads_same c.requires.0 c.args.one.now c.args.other.now c.head_of.result c.head_of-2.result c.compare_heads-heads.result c.head_of.ensures c.head_of-2.ensures c.requires.1 c.requires.2 c.compare_heads-heads.ensures (sym c.is_ne.ensures ∙ c.if-is_ne.false) in
    tag_arm c.args.one.now c.args.other.now c.in-Tag.field-0 c.in-Tag.inner c.get.result.now c.in-Some.enclosed.now c.compare_encodings.result c.in-Tag.is c.get.ensures c.in-Some.ensures c.compare_encodings.ensures same

pub compare_encodings-returns-in-None : goal.compare_encodings-returns-in-None
compare_encodings-returns-in-None t c =
    let same = heads_same c.requires.0 c.args.one.now c.args.other.now c.head_of.result c.head_of-2.result c.compare_heads-heads.result c.head_of.ensures c.head_of-2.ensures c.requires.1 c.requires.2 c.compare_heads-heads.ensures (sym c.is_ne.ensures ∙ c.if-is_ne.false) in
    tag_none c.args.one.now c.args.other.now c.in-Tag.field-0 c.in-Tag.inner c.in-Tag.is c.in-None.ensures same

pub compare_items-loop-at-init : goal.compare_items-loop-at-init
compare_items-loop-at-init t c =
    refl

pub compare_items-returns-then-is_ne : goal.compare_items-returns-then-is_ne
compare_items-returns-then-is_ne t c =
    let p = valid_at (IsValid c.requires.valid.0) c.args.some.now c.loop-at.at c.index-some-at.result c.loop-at-test.true c.index-some-at.is c.requires.valid.1 in
    let q = valid_at (IsValid c.requires.valid.0) c.args.others.now c.loop-at.at c.index-others-at.result (omega (arith, c.requires.as_many, c.loop-at-test.true)) c.index-others-at.is c.requires.valid.2 in
    differ_at encoding c.args.some.now c.args.others.now c.loop-at.at c.index-some-at.result c.index-others-at.result c.compare_encodings-order.result c.loop-at-test.true c.requires.as_many c.index-some-at.is c.index-others-at.is (items_apart c.requires.valid.0 c.index-some-at.result c.index-others-at.result p q) c.loop-at.invariant (sym c.compare_encodings-order.ensures) (sym c.is_ne.ensures ∙ c.if-is_ne.true)

pub compare_items-loop-at-preserved : goal.compare_items-loop-at-preserved
compare_items-loop-at-preserved t c =
    same_at encoding c.args.some.now c.args.others.now c.loop-at.at c.index-some-at.result c.index-others-at.result c.loop-at-test.true c.requires.as_many c.index-some-at.is c.index-others-at.is c.loop-at.invariant (sym c.compare_encodings-order.ensures ∙ not_ne c.compare_encodings-order.result (sym c.is_ne.ensures ∙ c.if-is_ne.false))

pub compare_items-returns : goal.compare_items-returns
compare_items-returns t c =
    same_all encoding c.args.some.now c.args.others.now c.loop-at.at c.loop-at-test.false c.requires.as_many c.loop-at.invariant

pub compare_pairs-loop-at-init : goal.compare_pairs-loop-at-init
compare_pairs-loop-at-init t c =
    refl

pub compare_pairs-returns-then-is_ne : goal.compare_pairs-returns-then-is_ne
compare_pairs-returns-then-is_ne t c =
    let p = valid_at (IsValidPair c.requires.valid.0) c.args.some.now c.loop-at.at c.index-some-at.result c.loop-at-test.true c.index-some-at.is c.requires.valid.1 in
    let q = valid_at (IsValidPair c.requires.valid.0) c.args.others.now c.loop-at.at c.index-others-at.result (omega (arith, c.requires.as_many, c.loop-at-test.true)) c.index-others-at.is c.requires.valid.2 in
    differ_at pair_bytes c.args.some.now c.args.others.now c.loop-at.at c.index-some-at.result c.index-others-at.result c.compare_encodings-keys.result c.loop-at-test.true c.requires.as_many c.index-some-at.is c.index-others-at.is (pairs_apart c.requires.valid.0 c.index-some-at.result c.index-others-at.result p q) c.loop-at.invariant (keys_decide c.requires.valid.0 c.index-some-at.result c.index-others-at.result c.compare_encodings-keys.result p q c.compare_encodings-keys.ensures (sym c.is_ne.ensures ∙ c.if-is_ne.true)) (sym c.is_ne.ensures ∙ c.if-is_ne.true)

pub compare_pairs-returns-then-is_ne-2 : goal.compare_pairs-returns-then-is_ne-2
compare_pairs-returns-then-is_ne-2 t c =
    let p = valid_at (IsValidPair c.requires.valid.0) c.args.some.now c.loop-at.at c.index-some-at.result c.loop-at-test.true c.index-some-at.is c.requires.valid.1 in
    let q = valid_at (IsValidPair c.requires.valid.0) c.args.others.now c.loop-at.at c.index-others-at.result (omega (arith, c.requires.as_many, c.loop-at-test.true)) c.index-others-at.is c.requires.valid.2 in
    differ_at pair_bytes c.args.some.now c.args.others.now c.loop-at.at c.index-some-at.result c.index-others-at.result c.compare_encodings-values.result c.loop-at-test.true c.requires.as_many c.index-some-at.is c.index-others-at.is (pairs_apart c.requires.valid.0 c.index-some-at.result c.index-others-at.result p q) c.loop-at.invariant (values_decide c.index-some-at.result c.index-others-at.result c.compare_encodings-keys.result c.compare_encodings-values.result c.compare_encodings-keys.ensures (sym c.is_ne.ensures ∙ c.if-is_ne.false) c.compare_encodings-values.ensures) (sym c.is_ne-in-loop-at.ensures ∙ c.if-is_ne-2.true)

pub compare_pairs-loop-at-preserved : goal.compare_pairs-loop-at-preserved
compare_pairs-loop-at-preserved t c =
    same_at pair_bytes c.args.some.now c.args.others.now c.loop-at.at c.index-some-at.result c.index-others-at.result c.loop-at-test.true c.requires.as_many c.index-some-at.is c.index-others-at.is c.loop-at.invariant (values_decide c.index-some-at.result c.index-others-at.result c.compare_encodings-keys.result c.compare_encodings-values.result c.compare_encodings-keys.ensures (sym c.is_ne.ensures ∙ c.if-is_ne.false) c.compare_encodings-values.ensures ∙ not_ne c.compare_encodings-values.result (sym c.is_ne-in-loop-at.ensures ∙ c.if-is_ne-2.false))

pub compare_pairs-returns : goal.compare_pairs-returns
compare_pairs-returns t c =
    same_all pair_bytes c.args.some.now c.args.others.now c.loop-at.at c.loop-at-test.false c.requires.as_many c.loop-at.invariant

pub compare_items-compare_encodings-order-requires : goal.compare_items-compare_encodings-order-requires
compare_items-compare_encodings-order-requires t c =
    let p = valid_at (IsValid c.requires.valid.0) c.args.some.now c.loop-at.at c.index-some-at.result c.loop-at-test.true c.index-some-at.is c.requires.valid.1 in
    let q = valid_at (IsValid c.requires.valid.0) c.args.others.now c.loop-at.at c.index-others-at.result (omega (arith, c.requires.as_many, c.loop-at-test.true)) c.index-others-at.is c.requires.valid.2 in
    (search (rules, the_lemmas), (c.requires.valid.0, p, q))

pub compare_pairs-compare_encodings-keys-requires : goal.compare_pairs-compare_encodings-keys-requires
compare_pairs-compare_encodings-keys-requires t c =
    let p = valid_at (IsValidPair c.requires.valid.0) c.args.some.now c.loop-at.at c.index-some-at.result c.loop-at-test.true c.index-some-at.is c.requires.valid.1 in
    let q = valid_at (IsValidPair c.requires.valid.0) c.args.others.now c.loop-at.at c.index-others-at.result (omega (arith, c.requires.as_many, c.loop-at-test.true)) c.index-others-at.is c.requires.valid.2 in
    (search (rules, the_lemmas), (c.requires.valid.0, p.0, q.0))

pub compare_pairs-compare_encodings-values-requires : goal.compare_pairs-compare_encodings-values-requires
compare_pairs-compare_encodings-values-requires t c =
    let p = valid_at (IsValidPair c.requires.valid.0) c.args.some.now c.loop-at.at c.index-some-at.result c.loop-at-test.true c.index-some-at.is c.requires.valid.1 in
    let q = valid_at (IsValidPair c.requires.valid.0) c.args.others.now c.loop-at.at c.index-others-at.result (omega (arith, c.requires.as_many, c.loop-at-test.true)) c.index-others-at.is c.requires.valid.2 in
    (search (rules, the_lemmas), (c.requires.valid.0, p.1, q.1))
