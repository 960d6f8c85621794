use Rattle.ecd_syntax.proofs.Verdicts.{one_nested, nested_not_within}
use Rattle.ecd_syntax.proofs.laws.one_nested_place.Goals as goal

pub returns-clause-one : goal.returns-clause-one
returns-clause-one c = one_nested

pub returns-clause-within : goal.returns-clause-within
returns-clause-within c = nested_not_within
