use Rattle.ecd_cjudge.proofs.Taking.{finds_then}
use Rattle.ecd_cjudge.proofs.judge_source.judge_called.Goals as goal

pub returns-in-Some : goal.returns-in-Some
returns-in-Some c = rw c.in-Some.is (finds_then c.unless.ensures c.unless-in-Some.ensures)
