use Rattle.std.proofs.Common.{◌≡◌, drop, false}
use Rattle.ecd_lex.specs.Scan.{body_len, more}
use Rattle.ecd_lex.proofs.string.body_len.Given as goal

abbrev pub invariant-loop-at : goal.invariant-loop-at
invariant-loop-at l = more l.at (body_len l.quote l.escaped (drop l.at l.text)) ≡ body_len l.quote false l.text
