use Rattle.ecd_commands.proofs.Structs.{Searched}
use Rattle.ecd_commands.proofs.cfiles.struct_of.Given as goal

abbrev pub invariant-loop-item : goal.invariant-loop-item
invariant-loop-item l = Searched l.items l.name l.item-index l.number
