use Rattle.std.proofs.Common.{◌++◌, length, take, map}
use Rattle.ecd_head.specs.Head.{head_bytes}
use Rattle.ecd_item_laws.specs.Encoding.{encoding, joined}
use Rattle.ecd_item.specs.Writing.{Emits}
use Rattle.ecd_item_laws.specs.Encoding.{pair_bytes}
use Rattle.ecd_item.proofs.write.+writing.Given as goal

abbrev pub invariant-emit_array-loop-item : goal.invariant-emit_array-loop-item
invariant-emit_array-loop-item l = Emits l.fn.into l.at (head_bytes 4 (length l.items) ++ joined (map encoding (take l.item-index l.items))) l.into l.here

abbrev pub invariant-emit_map-loop-pair : goal.invariant-emit_map-loop-pair
invariant-emit_map-loop-pair l = Emits l.fn.into l.at (head_bytes 5 (length l.pairs) ++ joined (map pair_bytes (take l.pair-index l.pairs))) l.into l.here
