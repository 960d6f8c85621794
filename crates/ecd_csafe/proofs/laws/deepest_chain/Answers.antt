use Rattle.ecd_csafe.proofs.DeepestChains.{deepest_chain}
use Rattle.ecd_csafe.proofs.LongestChains.{no_longer_chain}
use Rattle.ecd_csafe.proofs.laws.deepest_chain.Goals as goal

pub returns : goal.returns
returns c = record { some = deepest_chain; longest = no_longer_chain }
