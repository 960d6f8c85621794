use Rattle.ecd_cprint.proofs.Joins.{grows_then}
use Rattle.ecd_cprint.proofs.statements.print_loop_head.Goals as goal

pub returns : goal.returns
returns c = grows_then c.in_ok-print_loop_start.ensures c.in_ok-print_loop_end.ensures
