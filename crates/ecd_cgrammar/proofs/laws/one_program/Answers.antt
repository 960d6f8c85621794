use Rattle.ecd_cgrammar.proofs.Verdicts.{one_program}
use Rattle.ecd_cgrammar.proofs.laws.one_program.Goals as goal

pub returns : goal.returns
returns c = one_program
