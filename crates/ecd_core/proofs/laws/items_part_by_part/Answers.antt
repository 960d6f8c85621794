use Rattle.ecd_core.proofs.Running.{parts_in_two, many_by_runs, no_runs, first_run}
use Rattle.ecd_core.proofs.laws.items_part_by_part.Goals as goal

pub returns : goal.returns
returns c = record { parts = parts_in_two; many = many_by_runs; none = no_runs; first = first_run }
