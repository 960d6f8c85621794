use Rattle.ecd_bodies.proofs.Ranks.{never_reaches_back}
use Rattle.ecd_bodies.proofs.laws.ranked_names.Goals as goal

pub returns : goal.returns
returns c = never_reaches_back
