use Rattle.ecd_judge.proofs.Causes.{one_cause, never_refused, one_meaning}
use Rattle.ecd_judge.proofs.laws.one_cause.Goals as goal

pub returns : goal.returns
returns c = record { one = one_cause; none = never_refused; meaning = one_meaning }
