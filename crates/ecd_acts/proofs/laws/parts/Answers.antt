use Rattle.ecd_acts.proofs.Parts.{by_parts}
use Rattle.ecd_acts.proofs.laws.parts.Goals as goal

pub returns : goal.returns
returns c = by_parts
