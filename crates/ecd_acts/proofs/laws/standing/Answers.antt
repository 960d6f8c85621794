use Rattle.std.proofs.Common.{◌≡◌, true}
use Rattle.ecd_acts.proofs.Standing.{standing_parts, framed_places}
use Rattle.ecd_acts.proofs.laws.standing.Goals as goal

pub returns : goal.returns
returns c = record { parts = standing_parts; framed = λ t. framed_places (λ text. t text ≡ true) }
