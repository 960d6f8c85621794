use Rattle.ecd_item.proofs.Emitting.{Emits-then}
use Rattle.ecd_item.proofs.write.emit_string.Goals as goal

pub returns : goal.returns
returns c = Emits-then _ _ _ _ _ _ _ _ c.emit_head-at.ensures (record { written = c.in-Ok.ensures.ok.0; behind = c.in-Ok.ensures.ok.1 })
