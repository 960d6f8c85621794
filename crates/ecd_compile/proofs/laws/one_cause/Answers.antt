use Rattle.ecd_compile.proofs.Causes.{one_cause, never_refused}
use Rattle.ecd_compile.proofs.laws.one_cause.Goals as goal

pub returns : goal.returns
returns c = record { one = one_cause; none = never_refused }
