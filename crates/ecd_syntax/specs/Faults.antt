-- Why tokens are no schema.
use Rattle.std.specs.Prelude.{◌≡◌, ℕ, ◌+◌, ◌-◌, ◌≤◌, List, [], ◌∷◌, ◌++◌}
use Rattle.ecd_lex.specs.declared.token.Token.{Token}
use Rattle.ecd_lex.specs.declared.token.TokenKind.{TokenKind}
use Rattle.ecd_lex.specs.declared.token.TokenKind.TheVariants as kinds
use Rattle.ecd_lex.specs.declared.token.Sign.TheVariants as signs
use Rattle.ecd_syntax.specs.declared.tree.Tree.{Tree}
use Rattle.ecd_syntax.specs.Grammar.{Spells}

-- some schema begins with the tokens
pub record Completes (before : List Token) : Type 0 where
  pub more : List Token
  pub tree : Tree
  pub spells : Spells tree (before ++ more)

-- no schema has the first of the others behind the tokens; or, where there is no other, the tokens are no schema
abbrev pub NoneGoesOn : List Token → List Token → Type 0
NoneGoesOn before [] = (tree : Tree) → Spells tree before → ⊥
NoneGoesOn before (t ∷ rest) = Completes (before ++ t ∷ []) → ⊥

-- the first of the rest, or the end, is unexpected
pub record IsUnexpected (tokens before rest : List Token) : Type 0 where
  pub whole : tokens ≡ before ++ rest
  pub begins : Completes before
  pub ends : NoneGoesOn before rest

-- ---- brackets: `(`, `[` and `{`, those of a tag too

-- how many are open behind a token
abbrev pub open_behind : TokenKind → ℕ → ℕ
open_behind (kinds.Sign signs.OpenParen) n = n + 1
open_behind (kinds.Sign signs.OpenBracket) n = n + 1
open_behind (kinds.Sign signs.OpenBrace) n = n + 1
open_behind (kinds.Sign signs.CloseParen) n = n - 1
open_behind (kinds.Sign signs.CloseBracket) n = n - 1
open_behind (kinds.Sign signs.CloseBrace) n = n - 1
open_behind _ n = n

-- how many are open behind tokens
abbrev pub open_after : List Token → ℕ → ℕ
open_after [] n = n
open_after (t ∷ ts) n = open_after ts (open_behind t.kind n)

-- no more than 48 are open at any time
abbrev pub StaysWithin : List Token → ℕ → Type 0
StaysWithin [] n = n ≤ 48
StaysWithin (t ∷ ts) n = (n ≤ 48) × StaysWithin ts (open_behind t.kind n)

abbrev pub IsWithin : List Token → Type 0
IsWithin tokens = StaysWithin tokens 0

-- ---- where they stand

-- the place of the first token, or the end of the text
abbrev pub place_or : ℕ → List Token → ℕ
place_or end [] = end
place_or end (t ∷ ts) = t.at

-- the first unexpected token stands at the place, with no more than 48 open brackets before it
pub record UnexpectedAt (tokens : List Token) (end place : ℕ) : Type 0 where
  pub before : List Token
  pub rest : List Token
  pub unexpected : IsUnexpected tokens before rest
  pub within : IsWithin before
  pub stands : place ≡ place_or end rest

-- the bracket at the place is expected and opens the 49th open bracket, the first that does
pub record TooNestedAt (tokens : List Token) (place : ℕ) : Type 0 where
  pub before : List Token
  pub bracket : Token
  pub rest : List Token
  pub whole : tokens ≡ before ++ bracket ∷ rest
  pub begins : Completes (before ++ bracket ∷ [])
  pub within : IsWithin before
  pub opens : open_after (before ++ bracket ∷ []) 0 ≡ 49
  pub stands : place ≡ bracket.at
