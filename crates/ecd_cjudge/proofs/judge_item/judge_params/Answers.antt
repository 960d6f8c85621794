use Rattle.std.proofs.Common.{sym, take}
use Rattle.ecd_cast.specs.declared.tree.Param.{Param}
use Rattle.ecd_cast.specs.Validity.{param_broken, struct_names}
use Rattle.ecd_cjudge.proofs.Args.{flat-more}
use Rattle.ecd_cjudge.proofs.Taking.{finds_then, finds_same}
use Rattle.ecd_cjudge.proofs.judge_item.judge_params.Goals as goal

pub loop-param-preserved : goal.loop-param-preserved
loop-param-preserved c =
    finds_same
    (sym (flat-more (λ (q : Param). param_broken (struct_names (take c.args.around.now.at_ c.args.around.now.items.now)) q.kind) c.args.params.now c.loop-param.param-index c.param-item.result c.loop-param-test.true c.param-item.is))
    (finds_then c.loop-param.invariant c.judge_param.ensures)
