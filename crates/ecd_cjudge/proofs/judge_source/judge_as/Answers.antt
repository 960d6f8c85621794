use Rattle.ecd_cjudge.proofs.Taking.{finds_then}
use Rattle.ecd_cjudge.proofs.judge_source.judge_as.Goals as goal

pub returns : goal.returns
returns c = rw (← c.in_ok-kind.ensures.kind, ← c.takes.ensures) (finds_then c.in_ok-kind.ensures.faults c.unless.ensures)
