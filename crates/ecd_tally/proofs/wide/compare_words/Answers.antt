use Rattle.std.proofs.Common.{◌≡◌, ◌-◌, suc, arith}
use Rattle.ecd_tally.proofs.Words.{no_words, word_before}
use Rattle.ecd_tally.proofs.wide.compare_words.Goals as goal

pub loop-at-init : goal.loop-at-init
loop-at-init c = record { within = omega arith; so_far = no_words c.args.one.now c.args.other.now c.requires }

pub loop-at-preserved : goal.loop-at-preserved
loop-at-preserved c =
    let one = c.args.one.now in
    let other = c.args.other.now in
    let at = c.loop-at.at - 1 in
    let e : suc at ≡ c.loop-at.at = omega arith in
    record {
      within = omega arith;
      so_far = rw (c.then-order.ensures, c.cmp.ensures) (word_before one other at c.loop-at.order (omega arith) c.requires (omega (arith, c.type_inv.one at)) (omega (arith, c.type_inv.other at)) (rw e c.loop-at.invariant.so_far));
    }

pub returns : goal.returns
returns c =
    let e : c.loop-at.at ≡ 0 = omega arith in
    (rw e at c.loop-at.invariant.so_far).told
