use Rattle.std.proofs.Common.{◌≡◌, map, take}
use Rattle.ecd_item_laws.specs.Encoding.{encoding, pair_bytes, joined}
use Rattle.ecd_item.proofs.compare.+comparing.Given as goal

abbrev pub invariant-compare_items-loop-at : goal.invariant-compare_items-loop-at
invariant-compare_items-loop-at l = joined (map encoding (take l.at l.some)) ≡ joined (map encoding (take l.at l.others))

abbrev pub invariant-compare_pairs-loop-at : goal.invariant-compare_pairs-loop-at
invariant-compare_pairs-loop-at l = joined (map pair_bytes (take l.at l.some)) ≡ joined (map pair_bytes (take l.at l.others))
