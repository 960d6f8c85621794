use Rattle.ecd_cjudge.proofs.Taking.{finds_then}
use Rattle.ecd_cjudge.proofs.judge_stmt.judge_assign.Goals as goal

pub returns : goal.returns
returns c =
    rw (← c.kind_of-kind.ensures, ← c.assigned_kind.ensures, ← c.has.ensures) (finds_then (finds_then c.judge_assignable.ensures c.in_ok-judge_source.ensures) c.unless.ensures)
