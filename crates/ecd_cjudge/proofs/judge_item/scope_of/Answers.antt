use Rattle.std.proofs.Common.{arith, ◌<◌, ◌≤◌, length}
use Rattle.ecd_cscope.proofs.Known.{params-more}
use Rattle.ecd_cjudge.proofs.judge_item.scope_of.Goals as goal

pub loop-number-preserved : goal.loop-number-preserved
loop-number-preserved c =
    let pos : 0 < c.loop-number.number = omega arith in
    let le : c.loop-number.number ≤ length c.args.params.now = omega arith in
    record {
      known = params-more c.args.params.now c.loop-number.number c.index-params-number.result _ _ _ _ pos le c.index-params-number.is c.loop-number.invariant.known c.in_ok-declare.ensures c.as_slice.ensures c.of_param.ensures;
      loops = c.loop-number.invariant.loops;
    }
