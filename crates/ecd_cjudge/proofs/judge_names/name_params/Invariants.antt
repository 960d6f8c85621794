use Rattle.std.proofs.Common.{take}
use Rattle.std.specs.Prelude.{map}
use Rattle.ecd_cast.specs.Validity.{head_names}
use Rattle.ecd_cjudge.specs.Faults.{place_as}
use Rattle.ecd_cjudge.specs.Names.{Named}
use Rattle.ecd_cjudge.proofs.judge_names.name_params.Given as goal

abbrev pub invariant-loop-param : goal.invariant-loop-param
invariant-loop-param l = Named l.initial.names l.initial.first l.names l.first (head_names (place_as l.spot) (map (λ q. q.name) (take l.param-index l.params)))
