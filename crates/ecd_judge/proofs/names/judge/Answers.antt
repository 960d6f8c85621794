use Rattle.ecd_judge.proofs.Exact.{only_cause, only_wants}
use Rattle.ecd_judge.proofs.names.judge.Goals as goal

pub returns-clause-only_sound : goal.returns-clause-only_sound
returns-clause-only_sound c = λ rules is. only_wants c.names_of.result c.args.schema.now c.args.root.now c.args.depth c.args.order rules c.names_of.ensures.refused is

pub returns-clause-only_refused : goal.returns-clause-only_refused
returns-clause-only_refused c = λ cause told has. only_cause c.names_of.result _ c.args.schema.now c.args.root.now c.args.depth c.args.order c.names_of.ensures.sound c.names_of.ensures.refused cause told has
