use Rattle.std.proofs.Common.{ap, sym, ◌∙◌}
use Rattle.std.specs.Prelude.{◌&&◌, slice_get}
use Rattle.ecd_cast.specs.Kinds.{broken_by}
use Rattle.ecd_cscope.specs.Surroundings.{structs_before, takes_at}
use Rattle.ecd_cjudge.proofs.Args.{flat-more, fit-more, fit-whole}
use Rattle.ecd_cjudge.proofs.Taking.{finds_then, finds_same}
use Rattle.ecd_cjudge.proofs.judge_source.judge_args.Goals as goal

pub loop-number-preserved : goal.loop-number-preserved
loop-number-preserved c = record {
  finds =
      finds_same
      (sym (flat-more (broken_by (structs_before c.args.scene.now.around.now) c.args.scene.now.known.now) c.args.args.now c.loop-number.number c.index-args-number.result c.loop-number-test.true c.index-args-number.is))
      (finds_then c.loop-number.invariant.finds c.in_ok-kind.ensures.faults);
  fits =
      let takes = c.param_takes-takes.ensures ∙ ap (takes_at (slice_get c.args.params.now c.loop-number.number)) c.in_ok-kind.ensures.kind in
      (λ i. c.loop-number.invariant.fits i && takes i) ∙
      sym (fit-more (structs_before c.args.scene.now.around.now) c.args.scene.now.known.now c.loop-number.number c.args.params.now c.args.args.now c.index-args-number.result c.loop-number-test.true c.index-args-number.is);
}

pub returns-clause-fit : goal.returns-clause-fit
returns-clause-fit c =
    fit-whole (structs_before c.args.scene.now.around.now) c.args.scene.now.known.now c.loop-number.fit c.loop-number.number c.args.params.now c.args.args.now c.loop-number-test.false c.loop-number.auto.number-end
    c.loop-number.invariant.fits
