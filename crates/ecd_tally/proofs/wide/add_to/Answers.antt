use Rattle.std.proofs.Common.{◌≡◌, ◌+◌, ◌-◌, suc, length, arith}
use Rattle.std.proofs.lemmas.List.{length-set}
use Rattle.ecd_tally.specs.Sums.{value}
use Rattle.ecd_tally.proofs.Words.{add_word, carry_fits}
use Rattle.ecd_tally.proofs.wide.add_to.Goals as goal

pub loop-carry-preserved : goal.loop-carry-preserved
loop-carry-preserved c =
    let words = c.loop-carry.words in
    let at = c.loop-carry.at - 1 in
    let e : length words - c.loop-carry.at ≡ length words - suc at = omega arith in
    record {
      within = omega (arith, length-set words at c.overflowing_add-word.result.0);
      fits = carry_fits c.overflowing_add-word.result.1;
      sum = add_word words at c.loop-carry.carry c.overflowing_add-word.result.0 c.overflowing_add-word.result.1 (value c.args.words.now + c.args.number)
          (omega arith) (omega arith) c.loop-carry.invariant.fits c.overflowing_add-word.ensures.value c.overflowing_add-word.ensures.overflow (rw (← e) c.loop-carry.invariant.sum);
    }
