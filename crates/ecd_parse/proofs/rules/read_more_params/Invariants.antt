use Rattle.std.proofs.Common.{◌≡◌, ◌+◌, ◌-◌, ◌≤◌, suc, [], length, drop}
use Rattle.ecd_lex.specs.declared.token.Sign.TheVariants.{Comma}
use Rattle.ecd_syntax.specs.Marks.{marks, sign_of, name_of}
use Rattle.ecd_syntax.specs.Reading.{begins, behind, many, taken, more_listed, token}
use Rattle.ecd_reading.proofs.Loops.{with_front}
use Rattle.ecd_parse.proofs.rules.read_more_params.Given as goal

abbrev pub invariant-loop-next : goal.invariant-loop-next
invariant-loop-next l =
    record {
      within : l.here ≤ length l.tokens;
      after : l.at ≤ l.here;
      count : length l.params + l.at ≤ l.here + 1;
      gives : with_front l.params (many (begins (sign_of Comma)) (behind (sign_of Comma) (token name_of)) (taken []) (suc (suc (length (drop l.at (marks l.tokens)))) - length l.params) (drop l.here (marks l.tokens))) ≡ more_listed Comma (token name_of) l.fn.first (drop l.at (marks l.tokens));
    }

abbrev pub decreases-loop-next : goal.decreases-loop-next
decreases-loop-next l = length l.tokens - l.here
