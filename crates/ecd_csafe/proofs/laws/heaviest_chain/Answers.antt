use Rattle.ecd_csafe.proofs.DeepestChains.{heaviest_chain}
use Rattle.ecd_csafe.proofs.LongestChains.{no_heavier_chain}
use Rattle.ecd_csafe.proofs.laws.heaviest_chain.Goals as goal

pub returns : goal.returns
returns c = record { some = heaviest_chain; heaviest = no_heavier_chain }
