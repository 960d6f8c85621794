use Rattle.std.proofs.Common.{◌≡◌, ◌≤◌, ◌-◌, length, take}
use Rattle.ecd_syntax.specs.Faults.{open_after, StaysWithin}
use Rattle.ecd_parse.proofs.brackets.one_too_many.Given as goal

abbrev pub invariant-loop-at : goal.invariant-loop-at
invariant-loop-at l =
    record {
      bound : l.at ≤ length l.tokens;
      count : l.opened ≡ open_after (take l.at l.tokens) 0;
      few : l.opened ≤ 48;
      within : StaysWithin (take l.at l.tokens) 0;
    }

abbrev pub decreases-loop-at : goal.decreases-loop-at
decreases-loop-at l = length l.tokens - l.at
