use Rattle.std.proofs.Common.{◌≡◌, ◌<◌, drop}
use Rattle.std.specs.Prelude.{IfSome}
use Rattle.ecd_lex.specs.Forms.{hex_after, hex_decoded, with_front}
use Rattle.ecd_lex.proofs.string.hex_decoded.Given as goal

abbrev pub invariant-loop-at : goal.invariant-loop-at
invariant-loop-at l = (with_front l.bytes l.at (hex_after l.first (drop l.at l.body)) ≡ hex_decoded l.body) × IfSome l.first (λ value. value < 16)
