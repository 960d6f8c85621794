use Rattle.ecd_cast.specs.Validity.{structs_of}
use Rattle.ecd_ceval.proofs.Answering.{stays, kinds_hold}
use Rattle.ecd_ceval.proofs.machine.Machine.call.Goals as goal

pub invariant_of-self : goal.invariant_of-self
invariant_of-self c = c.run.ensures.kept (structs_of c.self.inside.program.now.items) c.self.invariant

pub returns-clause-stays : goal.returns-clause-stays
returns-clause-stays c = rw (← c.self.view_is) (stays c.self.inside.program.now c.self.inside.state.blocks.items c.run.new.state.blocks.items c.run.ensures.lasting)

pub returns-clause-kinded : goal.returns-clause-kinded
returns-clause-kinded c =
    kinds_hold c.self.inside.program.now.items c.run.new.state.blocks.items (c.run.ensures.kept (structs_of c.self.inside.program.now.items) c.self.invariant)
