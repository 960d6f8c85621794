use Rattle.std.proofs.Common.{◌≤◌, ◌-◌, drop, length, false}
use Rattle.ecd_lex.specs.Lexemes.{Reads}
use Rattle.ecd_lex.proofs.text.tokens_of.Given as goal

abbrev pub invariant-loop-tokens : goal.invariant-loop-tokens
invariant-loop-tokens l = Reads (length l.text) false l.text l.tokens (drop l.at l.text) × (l.at ≤ length l.text)

abbrev pub decreases-loop-tokens : goal.decreases-loop-tokens
decreases-loop-tokens l = length l.text - l.at
