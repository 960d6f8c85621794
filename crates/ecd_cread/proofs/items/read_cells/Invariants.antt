use Rattle.std.proofs.Common.{◌≡◌, ◌+◌, ◌-◌, ◌<◌, ◌≤◌, suc, length, drop}
use Rattle.std.specs.Prelude.{codes}
use Rattle.ecd_cgrammar.specs.Reading.{is_before, deep, many, cell_at, cells_at}
use Rattle.ecd_clex.specs.Tokens.{lexemes}
use Rattle.ecd_reading.proofs.Loops.{with_front}
use Rattle.ecd_cread.proofs.items.read_cells.Given as goal

abbrev pub invariant-loop-alloc : goal.invariant-loop-alloc
invariant-loop-alloc l =
    record {
      within : l.here ≤ length l.tokens;
      after : l.at < l.here;
      count : length l.cells + l.at ≤ l.here;
      gives : with_front l.cells (many (is_before (codes "}")) cell_at deep (suc (suc (length l.tokens)) - length l.cells) (drop l.here (lexemes l.text l.tokens))) ≡ cells_at (suc (length l.tokens)) (drop l.at (lexemes l.text l.tokens));
    }

abbrev pub decreases-loop-alloc : goal.decreases-loop-alloc
decreases-loop-alloc l = length l.tokens - l.here
