use Rattle.std.proofs.Common.{◌≡◌, ◌+◌, ◌-◌, ◌*◌, ◌≤◌, suc, length, drop}
use Rattle.std.specs.Prelude.{codes}
use Rattle.ecd_cgrammar.specs.Reading.{is_before, deep, many, stmt_at}
use Rattle.ecd_clex.specs.Tokens.{lexemes}
use Rattle.ecd_reading.proofs.Loops.{with_front}
use Rattle.ecd_cread.proofs.statements.+statements.Given as goal

abbrev pub decreases-read_stmt : goal.decreases-read_stmt
decreases-read_stmt l = 8 * l.levels + 0

abbrev pub decreases-read_statements : goal.decreases-read_statements
decreases-read_statements l = 8 * l.levels + 1

abbrev pub decreases-read_block : goal.decreases-read_block
decreases-read_block l = 8 * l.levels + 2

abbrev pub decreases-read_if : goal.decreases-read_if
decreases-read_if l = 8 * l.levels + 3

abbrev pub decreases-read_for : goal.decreases-read_for
decreases-read_for l = 8 * l.levels + 3

abbrev pub decreases-read_nested : goal.decreases-read_nested
decreases-read_nested l = 8 * l.levels + 4

abbrev pub decreases-read_keyword : goal.decreases-read_keyword
decreases-read_keyword l = 8 * l.levels + 5

abbrev pub invariant-read_statements-loop-alloc : goal.invariant-read_statements-loop-alloc
invariant-read_statements-loop-alloc l =
    record {
      within : l.here ≤ length l.tokens;
      after : l.at ≤ l.here;
      count : length l.statements + l.at ≤ l.here;
      gives : with_front l.statements (many (is_before (codes "}")) (stmt_at (suc (length l.tokens)) l.levels) deep (suc (length l.tokens) - length l.statements) (drop l.here (lexemes l.text l.tokens))) ≡ many (is_before (codes "}")) (stmt_at (suc (length l.tokens)) l.levels) deep (suc (length l.tokens)) (drop l.at (lexemes l.text l.tokens));
    }

abbrev pub decreases-read_statements-loop-alloc : goal.decreases-read_statements-loop-alloc
decreases-read_statements-loop-alloc l = length l.tokens - l.here
