use Rattle.std.proofs.Common.{sym, ap, ◌∷◌, []}
use Rattle.ecd_cast.specs.declared.tree.Param.{Param}
use Rattle.ecd_cast.specs.Memory.{Name}
use Rattle.ecd_cast.specs.Validity.{Naming}
use Rattle.ecd_cjudge.specs.Faults.{place_as}
use Rattle.ecd_cjudge.proofs.NameLayers.{named_then, named_same, head-more}
use Rattle.ecd_cjudge.proofs.judge_names.name_params.Goals as goal

pub loop-param-preserved : goal.loop-param-preserved
loop-param-preserved c =
    let one = ap (λ (x : Name). let n : Naming = record { name = x; place = place_as c.args.spot } in n ∷ []) c.as_slice.ensures in
    named_same (sym (head-more (λ (q : Param). q.name) c.args.params.now c.loop-param.param-index c.param-item.result c.loop-param-test.true c.param-item.is (place_as c.args.spot)))
    (named_then c.loop-param.invariant (named_same one c.in_ok-name_one.ensures))
