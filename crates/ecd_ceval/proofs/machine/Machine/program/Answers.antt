use Rattle.ecd_ceval.proofs.Answering.{kinds_hold}
use Rattle.ecd_ceval.proofs.machine.Machine.program.Goals as goal

pub returns-clause-kinded : goal.returns-clause-kinded
returns-clause-kinded c = rw (← c.self.view_is) (kinds_hold c.self.inside.program.now.items c.self.inside.state.blocks.items c.self.invariant)
