use Rattle.ecd_cprint.proofs.Joins.{grows_then}
use Rattle.ecd_cprint.proofs.items.print_param.Goals as goal

pub returns-in_ok-print_pointer-in-Struct : goal.returns-in_ok-print_pointer-in-Struct
returns-in_ok-print_pointer-in-Struct c =
    rw (c.in-Struct.is, ← c.as_slice.ensures, ← c.as_slice-name.ensures)
    (grows_then c.in_ok-put-in-Struct.ensures (grows_then c.in_ok-put-in-Struct-2.ensures c.in_ok-print_pointer-in-Struct.ensures))
