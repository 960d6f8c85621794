use Rattle.ecd_cprint.proofs.Joins.{grows_then}
use Rattle.ecd_cprint.proofs.statements.print_loop_start.Goals as goal

pub returns : goal.returns
returns c =
    grows_then c.in_ok-put.ensures (grows_then c.in_ok-put_before.ensures (grows_then c.in_ok-put-2.ensures (grows_then c.in_ok-put-3.ensures
    (grows_then c.in_ok-put-4.ensures (grows_then c.in_ok-put-5.ensures c.in_ok-put-6.ensures)))))
