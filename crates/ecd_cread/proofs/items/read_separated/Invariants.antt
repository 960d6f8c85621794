use Rattle.std.proofs.Common.{◌≡◌, ◌+◌, ◌-◌, ◌<◌, ◌≤◌, suc, length, drop}
use Rattle.std.specs.Prelude.{codes}
use Rattle.ecd_cgrammar.specs.Reading.{same, begins, expect, deep, many, separated, param_at}
use Rattle.ecd_clex.specs.Tokens.{lexemes}
use Rattle.ecd_reading.proofs.Loops.{with_front}
use Rattle.ecd_cread.proofs.items.read_separated.Given as goal

abbrev pub invariant-loop-next : goal.invariant-loop-next
invariant-loop-next l =
    record {
      within : l.here ≤ length l.tokens;
      after : l.at < l.here;
      count : length l.params + l.at ≤ l.here;
      gives : with_front l.params (many (begins (same (codes ","))) (expect (codes ",") param_at) deep (suc (suc (length l.tokens)) - length l.params) (drop l.here (lexemes l.text l.tokens))) ≡ separated param_at (suc (length l.tokens)) (drop l.at (lexemes l.text l.tokens));
    }

abbrev pub decreases-loop-next : goal.decreases-loop-next
decreases-loop-next l = length l.tokens - l.here
