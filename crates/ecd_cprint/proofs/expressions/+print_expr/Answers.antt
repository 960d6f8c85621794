use Rattle.ecd_cast.proofs.Layers.{lexemes-Load, lexemes-Binary, lexemes-Not}
use Rattle.ecd_cprint.proofs.Joins.{grows_then}
use Rattle.ecd_cprint.proofs.expressions.+print_expr.Goals as goal

pub returns-in_ok-put-in-Load-3 : goal.returns-in_ok-put-in-Load-3
returns-in_ok-put-in-Load-3 t c =
    rw (c.in-Load.is, lexemes-Load, ← c.get.ensures, ← c.as_slice-in-Load.ensures)
    (grows_then c.in_ok-put_before-in-Load.ensures (grows_then c.in_ok-put-in-Load.ensures (grows_then c.in_ok-put_before-in-Load-2.ensures
    (grows_then c.in_ok-put-in-Load-2.ensures (grows_then c.in_ok-put_before-in-Load-3.ensures (grows_then c.in_ok-print_expr-in-Load.ensures c.in_ok-put-in-Load-3.ensures))))))

pub returns-in_ok-put-in-Binary-2 : goal.returns-in_ok-put-in-Binary-2
returns-in_ok-put-in-Binary-2 t c =
    rw (c.in-Binary.is, lexemes-Binary, ← c.get-in-Binary.ensures, ← c.get-in-Binary-2.ensures, ← c.sign_of.ensures)
    (grows_then c.in_ok-put_before-in-Binary.ensures (grows_then c.in_ok-print_expr-in-Binary.ensures (grows_then c.in_ok-put-in-Binary.ensures
    (grows_then c.in_ok-print_expr-in-Binary-2.ensures c.in_ok-put-in-Binary-2.ensures))))

pub returns-in_ok-put-in-Not : goal.returns-in_ok-put-in-Not
returns-in_ok-put-in-Not t c =
    rw (c.in-Not.is, lexemes-Not, ← c.get-in-Not.ensures)
    (grows_then c.in_ok-put_before-in-Not.ensures (grows_then c.in_ok-put_before-in-Not-2.ensures (grows_then c.in_ok-print_expr-in-Not.ensures c.in_ok-put-in-Not.ensures)))
