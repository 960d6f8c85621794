use Rattle.ecd_names.proofs.Resolving.{one-first, none-first}
use Rattle.ecd_names.proofs.laws.one_first.Goals as goal

pub returns-clause-one : goal.returns-clause-one
returns-clause-one c = one-first

pub returns-clause-none : goal.returns-clause-none
returns-clause-none c = none-first
