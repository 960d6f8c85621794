use Rattle.std.proofs.Common.{◌∙◌, sym}
use Rattle.ecd_item_laws.specs.Encoding.{key_bytes}
use Rattle.ecd_item.proofs.Whole.{ascend_one, ascend_next, ascend_fails, ascend_all, lt_is, lt_not}
use Rattle.ecd_item.proofs.valid.keys_ascend.Goals as goal

pub loop-at-init : goal.loop-at-init
loop-at-init c = ascend_one c.args.order key_bytes c.args.pairs.now

pub returns-then-not-is_lt : goal.returns-then-not-is_lt
returns-then-not-is_lt c =
    ascend_fails c.args.order key_bytes c.args.pairs.now c.loop-at.at c.index-pairs-at.result c.index-pairs-at-in-loop-at.result c.loop-at.auto.at c.loop-at-test.true c.index-pairs-at.is c.index-pairs-at-in-loop-at.is (λ b. lt_not c.compare_in.result (sym c.is_lt.ensures ∙ c.if-not-is_lt.true) (c.compare_in.ensures ∙ b))

pub loop-at-preserved : goal.loop-at-preserved
loop-at-preserved c =
    ascend_next c.args.order key_bytes c.args.pairs.now c.loop-at.at c.index-pairs-at.result c.index-pairs-at-in-loop-at.result c.loop-at.auto.at c.loop-at-test.true c.index-pairs-at.is c.index-pairs-at-in-loop-at.is c.loop-at.invariant (sym c.compare_in.ensures ∙ lt_is c.compare_in.result (sym c.is_lt.ensures ∙ c.if-not-is_lt.false))

pub returns : goal.returns
returns c = ascend_all c.args.order key_bytes c.args.pairs.now c.loop-at.at c.loop-at-test.false c.loop-at.invariant
