use Rattle.ecd_cgrammar.proofs.Verdicts.{no_fault}
use Rattle.ecd_cgrammar.proofs.laws.a_spelling_has_no_fault.Goals as goal

pub returns : goal.returns
returns c = no_fault
