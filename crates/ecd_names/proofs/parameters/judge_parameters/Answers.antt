use Rattle.ecd_names.specs.Parameters.{RepeatedAt}
use Rattle.ecd_first.specs.Firsts.{offset}
use Rattle.ecd_first.proofs.Seeing.{sees_one_more}
use Rattle.ecd_names.proofs.Repeats.{sees_repeated}
use Rattle.ecd_names.proofs.parameters.judge_parameters.Goals as goal

pub loop-number-preserved : goal.loop-number-preserved
loop-number-preserved c =
    sees_one_more offset (RepeatedAt c.args.params.now) _ _ _ c.loop-number.number c.loop-number.invariant
    (sees_repeated c.args.params.now c.args.known.now c.requires _ _ c.loop-number.number c.index-params-number.result c.as_slice.result.now c.has_before-repeats.result c.loop-number-test.true c.index-params-number.is c.as_slice.ensures c.has_before-repeats.ensures c.note.ensures.seen)
