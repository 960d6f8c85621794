use Rattle.std.proofs.Common.{take}
use Rattle.std.specs.List.{AllByRecursion}
use Rattle.ecd_item_laws.specs.Valid.{IsWhole, IsWholePair}
use Rattle.ecd_item.proofs.valid.+validating.Given as goal

abbrev pub invariant-are_valid-loop-item : goal.invariant-are_valid-loop-item
invariant-are_valid-loop-item l = AllByRecursion (IsWhole l.order l.depth) (take l.item-index l.items)

abbrev pub invariant-are_pairs_valid-loop-pair : goal.invariant-are_pairs_valid-loop-pair
invariant-are_pairs_valid-loop-pair l = AllByRecursion (IsWholePair l.order l.depth) (take l.pair-index l.pairs)
