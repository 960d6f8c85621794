use Rattle.std.proofs.Common.{◌+◌, ◌≡◌, arith}
use Rattle.ecd_cbuild.proofs.Heaviest.{declares-more, declared-If, declared-For}
use Rattle.ecd_cbuild.proofs.chains.+declared.Goals as goal

pub block_declared-loop-stmt-preserved : goal.block_declared-loop-stmt-preserved
block_declared-loop-stmt-preserved t c =
    let h = declares-more c.args.body.now c.loop-stmt.stmt-index c.stmt-item.result c.loop-stmt-test.true c.stmt-item.is in
    let sum : c.in_ok-count.count ≡ c.loop-stmt.count + c.in_ok-more.more = grind arith in
    omega (arith, h, sum, c.loop-stmt.invariant, c.in_ok-more.ensures)

pub stmt_declared-returns-in_ok-ok_or-in-If : goal.stmt_declared-returns-in_ok-ok_or-in-If
stmt_declared-returns-in_ok-ok_or-in-If t c =
    let sum : c.in_ok-ok_or-in-If.field-0 ≡ c.in_ok-first-in-If.first + c.in_ok-second-in-If.second = grind arith in
    rw (c.in-If.is, declared-If, ← c.as_slice.ensures, ← c.as_slice-in-If.ensures, ← c.in_ok-first-in-If.ensures, ← c.in_ok-second-in-If.ensures) sum

pub stmt_declared-returns-in_ok-ok_or-in-For : goal.stmt_declared-returns-in_ok-ok_or-in-For
stmt_declared-returns-in_ok-ok_or-in-For t c =
    let sum : c.in_ok-ok_or-in-For.field-0 ≡ 1 + c.in_ok-inside-in-For.inside = grind arith in
    rw (c.in-For.is, declared-For, ← c.as_slice-in-For.ensures, ← c.in_ok-inside-in-For.ensures) sum
