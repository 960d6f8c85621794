use Rattle.std.proofs.Common.{◌≡◌, ◌⊎◌, sym, subst}
use Rattle.ecd_commands.specs.Outcomes.{Outcome, OutOfMemory}
use Rattle.ecd_commands.specs.Calls.{HasNoProgram, BreaksRule}
use Rattle.ecd_commands.proofs.Calling.{fault_refuses}
use Rattle.ecd_commands.proofs.cfiles.program_of.Goals as goal

pub returns-in-Err-clause-refused : goal.returns-in-Err-clause-refused
returns-in-Err-clause-refused c =
    subst (λ (o : Outcome). (o ≡ OutOfMemory) ⊎ (HasNoProgram c.args.text.now o ⊎ BreaksRule c.args.text.now o)) (sym c.refused.ensures)
    (fault_refuses c.args.text.now c.in-Err.fault c.in-Err.ensures.text c.in-Err.ensures.rule)
