use Rattle.ecd_calculus.proofs.Loops.{loop_falls, loop_returns}
use Rattle.ecd_calculus.proofs.laws.loops.Goals as goal

pub returns : goal.returns
returns c = record { falls = loop_falls; returns = loop_returns }
