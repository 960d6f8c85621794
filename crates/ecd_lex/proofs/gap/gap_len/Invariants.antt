use Rattle.std.proofs.Common.{◌≡◌, ◌+◌, drop, false}
use Rattle.ecd_lex.specs.Scan.{gap_len}
use Rattle.ecd_lex.proofs.gap.gap_len.Given as goal

abbrev pub invariant-loop-at : goal.invariant-loop-at
invariant-loop-at l = l.at + gap_len l.comment (drop l.at l.text) ≡ gap_len false l.text
