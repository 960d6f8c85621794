use Rattle.ecd_cprint.proofs.Joins.{grows_then}
use Rattle.ecd_cprint.proofs.items.print_struct.Goals as goal

pub returns : goal.returns
returns c =
    rw (← c.as_slice.ensures, ← c.as_slice-2.ensures)
    (grows_then c.in_ok-put.ensures (grows_then c.in_ok-put-2.ensures (grows_then c.in_ok-open.ensures (grows_then c.in_ok-print_cells.ensures (grows_then c.in_ok-close.ensures c.in_ok-put-3.ensures)))))
