-- What the parser answers.
use Rattle.std.specs.Prelude.{◌≡◌, ◌⊎◌, ℕ, List, Result, Ok, Err}
use Rattle.ecd_lex.specs.declared.token.Token.{Token}
use Rattle.ecd_syntax.specs.declared.tree.Tree.{Tree}
use Rattle.ecd_syntax.specs.Grammar.{Spells}
use Rattle.ecd_syntax.specs.Faults.{IsWithin, UnexpectedAt, TooNestedAt}
use Rattle.ecd_parse.specs.declared.fault.ParseFault.{ParseFault}
use Rattle.ecd_parse.specs.declared.fault.ParseFault.TheVariants as faults

-- the answer to tokens of a text that ends there, unless memory runs out
abbrev pub Answers : List Token → ℕ → Result Tree ParseFault → Type 0
Answers tokens end (Ok tree) = Spells tree tokens × IsWithin tokens
Answers tokens end (Err (faults.Unexpected place)) = UnexpectedAt tokens end place
Answers tokens end (Err (faults.TooNested place)) = TooNestedAt tokens place
Answers tokens end (Err faults.OutOfMemory) = Unit {0}

-- it is this, unless memory runs out
abbrev pub Is : Result Tree ParseFault → Result Tree ParseFault → Type 0
Is result answer = (result ≡ answer) ⊎ (result ≡ Err faults.OutOfMemory)
