use Rattle.ecd_cast.proofs.Verdicts.{first_fault}
use Rattle.ecd_cast.proofs.laws.first_fault.Goals as goal

pub returns : goal.returns
returns c = first_fault
