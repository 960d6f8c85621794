use Rattle.ecd_names.proofs.Repeats.{first-more}
use Rattle.ecd_names.proofs.parameters.Parameters.of.Goals as goal

pub loop-number-preserved : goal.loop-number-preserved
loop-number-preserved c = λ name.
    first-more c.args.params.now c.loop-number.number c.index-params-number.result c.as_slice.result.now name _ _ c.loop-number-test.true c.index-params-number.is c.as_slice.ensures (c.loop-number.invariant name) (c.in_ok-put_first.ensures name)
