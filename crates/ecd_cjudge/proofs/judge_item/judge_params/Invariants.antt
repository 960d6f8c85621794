use Rattle.std.proofs.Common.{take}
use Rattle.std.specs.Prelude.{flat_map}
use Rattle.ecd_cast.specs.Validity.{param_broken, struct_names}
use Rattle.ecd_cjudge.specs.Faults.{Finds, place_as}
use Rattle.ecd_cjudge.proofs.judge_item.judge_params.Given as goal

abbrev pub invariant-loop-param : goal.invariant-loop-param
invariant-loop-param l = Finds l.initial.first l.first (place_as l.spot) (flat_map (λ q. param_broken (struct_names (take l.around.at_ l.around.items.now)) q.kind) (take l.param-index l.params))
