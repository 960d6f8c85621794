use Rattle.ecd_syntax.proofs.Verdicts.{one_unexpected}
use Rattle.ecd_syntax.proofs.laws.one_unexpected_place.Goals as goal

pub returns : goal.returns
returns c = one_unexpected
