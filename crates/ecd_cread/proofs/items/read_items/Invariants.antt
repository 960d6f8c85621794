use Rattle.std.proofs.Common.{◌≡◌, ◌+◌, ◌-◌, ◌≤◌, suc, length, drop}
use Rattle.ecd_cgrammar.specs.Reading.{is_more, deep, many, stmt_at, item_at}
use Rattle.ecd_clex.specs.Tokens.{lexemes}
use Rattle.ecd_reading.proofs.Loops.{with_front}
use Rattle.ecd_cread.proofs.items.read_items.Given as goal

abbrev pub invariant-loop-here : goal.invariant-loop-here
invariant-loop-here l =
    record {
      within : l.here ≤ length l.tokens;
      after : l.at ≤ l.here;
      count : length l.items + l.at ≤ l.here;
      gives : with_front l.items (many is_more (item_at (suc (length l.tokens)) (stmt_at (suc (length l.tokens)) l.levels)) deep (suc (length l.tokens) - length l.items) (drop l.here (lexemes l.text l.tokens))) ≡ many is_more (item_at (suc (length l.tokens)) (stmt_at (suc (length l.tokens)) l.levels)) deep (suc (length l.tokens)) (drop l.at (lexemes l.text l.tokens));
    }

abbrev pub decreases-loop-here : goal.decreases-loop-here
decreases-loop-here l = length l.tokens - l.here
