use Rattle.std.proofs.Common.{◌≡◌, ◌≤◌, ◌+◌, ◌*◌, ◌-◌, length, drop, None}
use Rattle.std.specs.Option.{option_copied}
use Rattle.ecd_item_laws.specs.Reading.{many, pairs, item_at}
use Rattle.ecd_item_laws.proofs.Results.{with_front}
use Rattle.ecd_item.proofs.read.+reading.Given as goal

abbrev pub decreases-item_of : goal.decreases-item_of
decreases-item_of l = 4 * l.depth + 2

abbrev pub decreases-behind_of : goal.decreases-behind_of
decreases-behind_of l = 4 * l.depth + 1

abbrev pub decreases-parts_of : goal.decreases-parts_of
decreases-parts_of l = 4 * l.depth

abbrev pub decreases-items_of : goal.decreases-items_of
decreases-items_of l = 4 * l.depth + 3

abbrev pub decreases-pairs_of : goal.decreases-pairs_of
decreases-pairs_of l = 4 * l.depth + 3

abbrev pub invariant-items_of-loop : goal.invariant-items_of-loop
invariant-items_of-loop l =
    record {
      within : l.here ≤ length l.bytes;
      after : l.at ≤ l.here;
      gives : with_front l.items (many (item_at l.order l.depth) (l.count - l.counter) l.here (drop l.here l.bytes)) ≡ many (item_at l.order l.depth) l.count l.at (drop l.at l.bytes);
    }

abbrev pub invariant-pairs_of-loop : goal.invariant-pairs_of-loop
invariant-pairs_of-loop l =
    record {
      within : l.here ≤ length l.bytes;
      after : l.at ≤ l.here;
      gives : with_front l.pairs (pairs l.order (item_at l.order l.depth) (option_copied l.last) (l.count - l.counter) l.here (drop l.here l.bytes)) ≡ pairs l.order (item_at l.order l.depth) None l.count l.at (drop l.at l.bytes);
    }
