use Rattle.std.proofs.Common.{◌≤◌, length, drop}
use Rattle.ecd_tally.proofs.Words.{Compares}
use Rattle.ecd_tally.proofs.wide.compare_words.Given as goal

abbrev pub invariant-loop-at : goal.invariant-loop-at
invariant-loop-at l =
    record {
      within : l.at ≤ length l.one;
      so_far : Compares (drop l.at l.one) (drop l.at l.other) l.order;
    }

abbrev pub decreases-loop-at : goal.decreases-loop-at
decreases-loop-at l = l.at
