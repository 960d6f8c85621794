use Rattle.ecd_lex.proofs.Determined.{one_fault}
use Rattle.ecd_lex.proofs.laws.one_first_fault.Goals as goal

pub returns : goal.returns
returns c = λ text place rule other_place other_rule. one_fault text place other_place rule other_rule
