use Rattle.ecd_apart.proofs.BothWays.{is_apart_both_ways}
use Rattle.ecd_apart.proofs.laws.apart_both_ways.Goals as goal

pub returns : goal.returns
returns c = is_apart_both_ways
