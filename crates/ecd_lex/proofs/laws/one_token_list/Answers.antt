use Rattle.ecd_lex.proofs.Determined.{one_list}
use Rattle.ecd_lex.proofs.laws.one_token_list.Goals as goal

pub returns : goal.returns
returns c = one_list
