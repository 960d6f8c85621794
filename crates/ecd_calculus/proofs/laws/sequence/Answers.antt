use Rattle.ecd_calculus.proofs.Calculus.{block_falls, block_returns}
use Rattle.ecd_calculus.proofs.laws.sequence.Goals as goal

pub returns : goal.returns
returns c = record { falls = block_falls; returns = block_returns }
