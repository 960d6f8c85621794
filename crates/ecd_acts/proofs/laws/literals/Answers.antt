use Rattle.ecd_acts.specs.Rules.{holds}
use Rattle.ecd_acts.proofs.Literals.{literal_parts, comparing_wide}
use Rattle.ecd_acts.proofs.laws.literals.Goals as goal

pub returns : goal.returns
returns c = record { parts = literal_parts; wide = λ p f. comparing_wide (holds p) (holds f) }
