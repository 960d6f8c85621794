use Rattle.std.proofs.Common.{◌≡◌, ◌-◌, drop, length}
use Rattle.ecd_lex.specs.Forms.{decoded, with_front}
use Rattle.ecd_lex.proofs.string.decoded.Given as goal

abbrev pub invariant-loop-at : goal.invariant-loop-at
invariant-loop-at l = with_front l.bytes l.at (decoded l.quote (drop l.at l.body)) ≡ decoded l.quote l.body

abbrev pub decreases-loop-at : goal.decreases-loop-at
decreases-loop-at l = length l.initial.body - l.at
