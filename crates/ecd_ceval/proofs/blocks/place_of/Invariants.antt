use Rattle.std.proofs.Common.{take}
use Rattle.ecd_ceval.specs.Writes.{IsNoCell}
use Rattle.ecd_ceval.proofs.blocks.place_of.Given as goal

abbrev pub invariant-loop-at : goal.invariant-loop-at
invariant-loop-at l = IsNoCell l.name (take l.at l.infos)
