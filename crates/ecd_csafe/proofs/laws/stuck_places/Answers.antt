use Rattle.ecd_csafe.proofs.StuckPlaces.{stuck_places}
use Rattle.ecd_csafe.proofs.laws.stuck_places.Goals as goal

pub returns : goal.returns
returns c = stuck_places
