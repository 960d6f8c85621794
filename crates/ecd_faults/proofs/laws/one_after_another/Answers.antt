use Rattle.ecd_faults.proofs.Taking.{taken_together, taken_apart}
use Rattle.ecd_faults.proofs.laws.one_after_another.Goals as goal

pub returns : goal.returns
returns c = record { together = taken_together; apart = taken_apart }
