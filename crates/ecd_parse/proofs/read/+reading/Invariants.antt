use Rattle.std.proofs.Common.{◌≡◌, ◌+◌, ◌-◌, ◌*◌, ◌≤◌, suc, [], length, drop}
use Rattle.ecd_syntax.specs.Marks.{marks, sign_of}
use Rattle.ecd_syntax.specs.Reading.{begins, behind, many, taken, each, more_listed, choice_at, goes_on, entry_in_way, all_ways}
use Rattle.ecd_reading.proofs.Loops.{with_front}
use Rattle.ecd_parse.proofs.Loops.{behind_way}
use Rattle.ecd_parse.proofs.read.+reading.Given as goal

abbrev pub decreases-read_choice : goal.decreases-read_choice
decreases-read_choice l = 16 * l.levels + 0

abbrev pub decreases-read_more : goal.decreases-read_more
decreases-read_more l = 16 * l.levels + 1

abbrev pub decreases-read_args : goal.decreases-read_args
decreases-read_args l = 16 * l.levels + 2

abbrev pub decreases-read_type : goal.decreases-read_type
decreases-read_type l = 16 * l.levels + 2

abbrev pub decreases-read_body : goal.decreases-read_body
decreases-read_body l = 16 * l.levels + 3

abbrev pub decreases-read_entry : goal.decreases-read_entry
decreases-read_entry l = 16 * l.levels + 4

abbrev pub decreases-read_entries : goal.decreases-read_entries
decreases-read_entries l = 16 * l.levels + 5

abbrev pub decreases-read_group : goal.decreases-read_group
decreases-read_group l = 16 * l.levels + 6

abbrev pub decreases-read_operand : goal.decreases-read_operand
decreases-read_operand l = 16 * l.levels + 7

abbrev pub invariant-read_more-loop-next : goal.invariant-read_more-loop-next
invariant-read_more-loop-next l =
    record {
      within : l.here ≤ length l.tokens;
      after : l.at ≤ l.here;
      count : length l.choices + l.at ≤ l.here + 1;
      gives : with_front l.choices (many (begins (sign_of l.sign)) (behind (sign_of l.sign) (choice_at l.levels)) (taken []) (suc (suc (length (drop l.at (marks l.tokens)))) - length l.choices) (drop l.here (marks l.tokens))) ≡ more_listed l.sign (choice_at l.levels) l.fn.first (drop l.at (marks l.tokens));
    }

abbrev pub decreases-read_more-loop-next : goal.decreases-read_more-loop-next
decreases-read_more-loop-next l = length l.tokens - l.here

abbrev pub invariant-read_entries-loop-alloc : goal.invariant-read_entries-loop-alloc
invariant-read_entries-loop-alloc l =
    record {
      within : l.here ≤ length l.tokens;
      after : l.at ≤ l.here;
      count : length l.entries + l.at ≤ l.here;
      gives : with_front l.entries (many (goes_on l.close) (entry_in_way (choice_at l.levels)) (taken []) (suc (length (drop l.at (marks l.tokens))) - length l.entries) (drop l.here (marks l.tokens))) ≡ each (goes_on l.close) (entry_in_way (choice_at l.levels)) (drop l.at (marks l.tokens));
    }

abbrev pub decreases-read_entries-loop-alloc : goal.decreases-read_entries-loop-alloc
decreases-read_entries-loop-alloc l = length l.tokens - l.here

abbrev pub invariant-read_group-loop-next : goal.invariant-read_group-loop-next
invariant-read_group-loop-next l =
    record {
      within : l.here ≤ length l.tokens;
      after : l.at ≤ l.here;
      count : length l.ways + l.at ≤ l.here + 1;
      gives : with_front l.ways (behind_way (choice_at l.levels) l.close (suc (length (drop l.at (marks l.tokens))) - length l.ways) (drop l.here (marks l.tokens))) ≡ all_ways (choice_at l.levels) l.close (drop l.at (marks l.tokens));
    }

abbrev pub decreases-read_group-loop-next : goal.decreases-read_group-loop-next
decreases-read_group-loop-next l = length l.tokens - l.here
