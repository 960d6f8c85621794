use Rattle.ecd_cjudge.proofs.Taking.{finds_then}
use Rattle.ecd_cjudge.proofs.judge_stmt.judge_own.Goals as goal

pub returns-in_ok-judge_as-in-Store-2 : goal.returns-in_ok-judge_as-in-Store-2
returns-in_ok-judge_as-in-Store-2 c =
    rw (c.in-Store.is, ← c.as_slice-in-Store.ensures) (finds_then (finds_then c.judge_asked.ensures c.in_ok-judge_as-in-Store.ensures) c.in_ok-judge_as-in-Store-2.ensures)

pub returns-in_ok-judge_as-in-SetCell : goal.returns-in_ok-judge_as-in-SetCell
returns-in_ok-judge_as-in-SetCell c =
    rw (c.in-SetCell.is, ← c.as_slice-in-SetCell.ensures, ← c.as_slice-in-SetCell-2.ensures, ← c.judge_cell-kind.ensures.kind) (finds_then c.judge_cell-kind.ensures.faults c.in_ok-judge_as-in-SetCell.ensures)
