use Rattle.ecd_cread.proofs.Laying.{only_valid, only_text, only_rule}
use Rattle.ecd_cread.proofs.valid.read_c.Goals as goal

pub returns-clause-only : goal.returns-clause-only
returns-clause-only c = only_valid c.args.text.now c.answer.result c.answer.ensures

pub returns-clause-only_text : goal.returns-clause-only_text
returns-clause-only_text c = only_text c.args.text.now c.answer.result c.answer.ensures

pub returns-clause-only_rule : goal.returns-clause-only_rule
returns-clause-only_rule c = only_rule c.args.text.now c.answer.result c.answer.ensures
