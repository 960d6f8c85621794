use Rattle.std.proofs.Common.{◌≡◌, ◌+◌, ◌-◌, ◌≤◌, suc, [], length, drop}
use Rattle.ecd_syntax.specs.Marks.{marks}
use Rattle.ecd_syntax.specs.Reading.{many, taken, choice_at, is_more, rule_at, more_rules}
use Rattle.ecd_reading.proofs.Loops.{with_front}
use Rattle.ecd_parse.proofs.rules.read_more_rules.Given as goal

abbrev pub invariant-loop-here : goal.invariant-loop-here
invariant-loop-here l =
    record {
      within : l.here ≤ length l.tokens;
      after : l.at ≤ l.here;
      count : length l.rules + l.at ≤ l.here + 1;
      gives : with_front l.rules (many is_more (rule_at (choice_at l.levels)) (taken []) (suc (suc (length (drop l.at (marks l.tokens)))) - length l.rules) (drop l.here (marks l.tokens))) ≡ more_rules (choice_at l.levels) l.fn.first (drop l.at (marks l.tokens));
    }

abbrev pub decreases-loop-here : goal.decreases-loop-here
decreases-loop-here l = length l.tokens - l.here
