use Rattle.ecd_lex.proofs.Determined.{no_list_and_fault}
use Rattle.ecd_lex.proofs.laws.tokens_or_fault.Goals as goal

pub returns : goal.returns
returns c = no_list_and_fault
