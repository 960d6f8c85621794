use Rattle.std.proofs.Common.{◌+◌, arith}
use Rattle.ecd_ceval.proofs.Counting.{count-If, count-For, count_more}
use Rattle.ecd_ceval.proofs.count.+counting.Goals as goal

pub count_all-loop-statement-preserved : goal.count_all-loop-statement-preserved
count_all-loop-statement-preserved t c =
    let i = c.loop-statement.statement-index in
    let e = count_more c.args.statements.now i (i + 1) c.statement-item.result c.statement-item.result (omega arith) c.loop-statement-test.true c.statement-item.is in
    let more = c.in_ok-more.ensures in let sum = c.in_ok-count.ensures in let so_far = c.loop-statement.invariant in rw e (omega arith)

pub count_of-returns-in_ok-count-in-If : goal.count_of-returns-in_ok-count-in-If
count_of-returns-in_ok-count-in-If t c =
    let a = rw c.as_slice.ensures at c.in_ok-yes-in-If.ensures in let b = rw c.as_slice-in-If.ensures at c.in_ok-no-in-If.ensures in
    let sum = c.in_ok-inside-in-If.ensures in let all = c.in_ok-count-in-If.ensures in
    let e = count-If c.in-If.test c.in-If.yes c.in-If.no in rw (c.in-If.is, e) (omega arith)

pub count_of-returns-in_ok-count-in-For : goal.count_of-returns-in_ok-count-in-For
count_of-returns-in_ok-count-in-For t c =
    let a = rw c.as_slice-in-For.ensures at c.in_ok-inside-in-For.ensures in let all = c.in_ok-count-in-For.ensures in
    let e = count-For c.in-For.name c.in-For.bound c.in-For.body in rw (c.in-For.is, e) (omega arith)
