use Rattle.std.proofs.Common.{take, map}
use Rattle.ecd_item_laws.specs.Encoding.{key_bytes}
use Rattle.ecd_item_laws.specs.Valid.{Ascend}
use Rattle.ecd_item.proofs.valid.keys_ascend.Given as goal

abbrev pub invariant-loop-at : goal.invariant-loop-at
invariant-loop-at l = Ascend l.order (map key_bytes (take l.at l.pairs))
