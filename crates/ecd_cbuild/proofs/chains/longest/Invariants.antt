use Rattle.std.proofs.Common.{take}
use Rattle.ecd_cbuild.specs.Built.{Tallied}
use Rattle.ecd_cbuild.proofs.chains.longest.Given as goal

abbrev pub invariant-loop-item : goal.invariant-loop-item
invariant-loop-item l = Tallied (take l.item-index l.items) l.reaches l.most
