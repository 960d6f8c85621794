use Rattle.std.proofs.Common.{◌≡◌, ◌+◌, ◌-◌, ◌*◌, ◌^◌, ◌<◌, ◌≤◌, length}
use Rattle.ecd_tally.specs.Sums.{value}
use Rattle.ecd_tally.proofs.wide.add_to.Given as goal

abbrev pub invariant-loop-carry : goal.invariant-loop-carry
invariant-loop-carry l =
    record {
      within : l.at ≤ length l.words;
      fits : l.carry < 2 ^ 64;
      sum : value l.words + l.carry * (2 ^ 64) ^ (length l.words - l.at) ≡ value l.fn.words + l.number;
    }

abbrev pub decreases-loop-carry : goal.decreases-loop-carry
decreases-loop-carry l = l.at
