use Rattle.std.proofs.Common.{take}
use Rattle.std.specs.Prelude.{map}
use Rattle.ecd_cast.specs.Validity.{head_names}
use Rattle.ecd_cjudge.specs.Faults.{place_as}
use Rattle.ecd_cjudge.specs.Names.{Named}
use Rattle.ecd_cjudge.proofs.judge_names.name_cells.Given as goal

abbrev pub invariant-loop-cell : goal.invariant-loop-cell
invariant-loop-cell l = Named l.initial.names l.initial.first l.names l.first (head_names (place_as l.spot) (map (λ q. q.name) (take l.cell-index l.cells)))
