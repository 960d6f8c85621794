use Rattle.std.proofs.Common.{◌≤◌, ◌-◌, length}
use Rattle.ecd_clex.specs.Tokens.{Lexed}
use Rattle.ecd_clex.proofs.text.lex.Given as goal

abbrev pub invariant-loop-token : goal.invariant-loop-token
invariant-loop-token l = Lexed l.text l.from l.tokens l.at × (l.at ≤ length l.text)

abbrev pub decreases-loop-token : goal.decreases-loop-token
decreases-loop-token l = length l.text - l.at
