use Rattle.ecd_commands.proofs.cfiles.returned.Goals as goal

pub returns-in-Some-clause-halted : goal.returns-in-Some-clause-halted
returns-in-Some-clause-halted c = rw c.in-Some.ensures.0 at c.called.ensures.halted
