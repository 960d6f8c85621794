use Rattle.ecd_cprint.proofs.Joins.{grows_then}
use Rattle.ecd_cprint.proofs.items.print_depth.Goals as goal

pub returns : goal.returns
returns c =
    grows_then c.in_ok-put.ensures (grows_then c.in_ok-put-2.ensures (grows_then c.in_ok-put-3.ensures (grows_then c.in_ok-put-4.ensures
    (grows_then c.in_ok-print_count.ensures (grows_then c.in_ok-put-5.ensures c.in_ok-put-6.ensures)))))
