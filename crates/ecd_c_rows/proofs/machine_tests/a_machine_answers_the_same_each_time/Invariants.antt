use Rattle.std.proofs.Common.{◌≡◌}
use Rattle.std.specs.Prelude.{slice_get, Some}
use Rattle.ecd_cast.specs.Fitting.{Output}
use Rattle.ecd_ceval.specs.Machines.{IsOfCells}
use Rattle.ecd_c_rows.proofs.machine_tests.a_machine_answers_the_same_each_time.Given as goal

abbrev pub invariant-calls : goal.invariant-calls
invariant-calls g l = IsOfCells (slice_get l.machine.kinds 2) × (slice_get l.machine.kinds 1 ≡ Some Output)
