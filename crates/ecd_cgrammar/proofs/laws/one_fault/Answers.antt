use Rattle.ecd_cgrammar.proofs.Verdicts.{one_fault}
use Rattle.ecd_cgrammar.proofs.laws.one_fault.Goals as goal

pub returns : goal.returns
returns c = one_fault
