use Rattle.ecd_cast.specs.Spelling.{stmt_lexemes}
use Rattle.ecd_cast.proofs.Layers.{lexemes-If, lexemes-For}
use Rattle.ecd_cprint.proofs.Joins.{grows_then}
use Rattle.ecd_cprint.proofs.Loops.{grows_more, grows_all, grows_choice}
use Rattle.ecd_cprint.proofs.statements.+statements.Goals as goal

pub print_block-returns : goal.print_block-returns
print_block-returns t c = grows_then c.in_ok-open.ensures (grows_then c.in_ok-print_stmts.ensures c.in_ok-close.ensures)

pub print_stmt-returns-in_ok-print_block-in-If-2 : goal.print_stmt-returns-in_ok-print_block-in-If-2
print_stmt-returns-in_ok-print_block-in-If-2 t c =
    rw (c.in-If.is, lexemes-If, ← c.as_slice-in-If.ensures, ← c.as_slice-in-If-2.ensures)
    (grows_choice _ _ _ _ _ _ _ _ _ _ _ _ _ c.in_ok-put-in-If.ensures c.in_ok-print_expr-in-If.ensures c.in_ok-print_block-in-If.ensures c.in_ok-put-in-If-2.ensures c.in_ok-print_block-in-If-2.ensures)

pub print_stmt-returns-in_ok-print_block-in-For : goal.print_stmt-returns-in_ok-print_block-in-For
print_stmt-returns-in_ok-print_block-in-For t c =
    rw (c.in-For.is, lexemes-For, ← c.as_slice-in-For.ensures, ← c.as_slice-in-For-2.ensures, ← c.as_slice-in-For-3.ensures)
    (grows_then c.in_ok-print_loop_head-in-For.ensures c.in_ok-print_block-in-For.ensures)

pub print_stmt-returns-in_ok-put-in-Return-2 : goal.print_stmt-returns-in_ok-put-in-Return-2
print_stmt-returns-in_ok-put-in-Return-2 t c =
    rw c.in-Return.is (grows_then c.in_ok-put-in-Return.ensures (grows_then c.in_ok-print_expr-in-Return.ensures c.in_ok-put-in-Return-2.ensures))

pub print_stmts-returns : goal.print_stmts-returns
print_stmts-returns t c = grows_all stmt_lexemes _ c.loop-stmt.stmt-index _ _ c.loop-stmt-test.false c.loop-stmt.invariant

pub print_stmts-loop-stmt-preserved : goal.print_stmts-loop-stmt-preserved
print_stmts-loop-stmt-preserved t c = grows_more stmt_lexemes _ c.loop-stmt.stmt-index c.stmt-item.result _ _ _ c.loop-stmt-test.true c.stmt-item.is c.loop-stmt.invariant c.in_ok-print_stmt.ensures
