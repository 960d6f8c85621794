use Rattle.ecd_syntax.proofs.Verdicts.{nested_not_unexpected}
use Rattle.ecd_syntax.proofs.laws.one_fault.Goals as goal

pub returns : goal.returns
returns c = nested_not_unexpected
