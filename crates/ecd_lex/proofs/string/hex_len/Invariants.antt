use Rattle.std.proofs.Common.{◌≡◌, drop, false}
use Rattle.ecd_lex.specs.Scan.{hex_len, more}
use Rattle.ecd_lex.proofs.string.hex_len.Given as goal

abbrev pub invariant-loop-at : goal.invariant-loop-at
invariant-loop-at l = more l.at (hex_len l.returned (drop l.at l.text)) ≡ hex_len false l.text
