use Rattle.ecd_cprint.proofs.Joins.{grows_then}
use Rattle.ecd_cprint.proofs.statements.print_source.Goals as goal

pub returns-in_ok-put-in-Call-2 : goal.returns-in_ok-put-in-Call-2
returns-in_ok-put-in-Call-2 c =
    rw (c.in-Call.is, ← c.as_slice.ensures, ← c.as_slice-in-Call.ensures)
    (grows_then c.in_ok-put-in-Call.ensures (grows_then c.in_ok-put_before-in-Call.ensures (grows_then c.in_ok-print_args-in-Call.ensures c.in_ok-put-in-Call-2.ensures)))
