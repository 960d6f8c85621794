use Rattle.ecd_syntax.proofs.Verdicts.{one_spelled}
use Rattle.ecd_syntax.proofs.laws.one_tree.Goals as goal

pub returns : goal.returns
returns c = one_spelled
