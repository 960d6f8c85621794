use Rattle.ecd_cread.proofs.Laying.{only_program, only_fault}
use Rattle.ecd_cread.proofs.program.read_program.Goals as goal

pub returns-clause-only : goal.returns-clause-only
returns-clause-only c = only_program c.args.text.now c.answer.result c.answer.ensures

pub returns-clause-only_fault : goal.returns-clause-only_fault
returns-clause-only_fault c = only_fault c.args.text.now c.answer.result c.answer.ensures
