use Rattle.ecd_cprint.proofs.Joins.{grows_then}
use Rattle.ecd_cprint.proofs.items.print_function.Goals as goal

pub returns : goal.returns
returns c =
    rw (← c.as_slice.ensures, ← c.as_slice-2.ensures, ← c.as_slice-3.ensures)
    (grows_then c.in_ok-put.ensures (grows_then c.in_ok-put-2.ensures (grows_then c.in_ok-put_before.ensures (grows_then c.in_ok-print_params.ensures (grows_then c.in_ok-put-3.ensures c.in_ok-print_block.ensures)))))
