use Rattle.std.proofs.Common.{◌<◌, ◌+◌, length, arith, sym, ◌∙◌}
use Rattle.ecd_ceval.proofs.Writing.{no_more, first_here}
use Rattle.ecd_ceval.proofs.blocks.place_of.Goals as goal

pub returns-then-eq : goal.returns-then-eq
returns-then-eq c =
    let lt : c.loop-at.at < length c.args.infos.now = omega arith in
    let same = rw c.as_slice.ensures at c.eq.ensures in
    first_here c.args.name.now c.args.infos.now c.loop-at.at c.index-infos-at.result c.index-infos-at.result lt c.index-infos-at.is (sym same ∙ c.if-eq.true) c.loop-at.invariant

pub loop-at-preserved : goal.loop-at-preserved
loop-at-preserved c =
    let lt : c.loop-at.at < length c.args.infos.now = omega arith in
    let same = rw c.as_slice.ensures at c.eq.ensures in
    no_more c.args.name.now c.args.infos.now c.loop-at.at (c.loop-at.at + 1) c.index-infos-at.result c.index-infos-at.result (omega arith) lt c.index-infos-at.is (sym same ∙ c.if-eq.false) c.loop-at.invariant
