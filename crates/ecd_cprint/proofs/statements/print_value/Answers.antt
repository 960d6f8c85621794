use Rattle.ecd_cprint.proofs.Joins.{grows_then}
use Rattle.ecd_cprint.proofs.statements.print_value.Goals as goal

pub returns : goal.returns
returns c = grows_then c.in_ok-put.ensures (grows_then c.in_ok-print_expr.ensures c.in_ok-put-2.ensures)
