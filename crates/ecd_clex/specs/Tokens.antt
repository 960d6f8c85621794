-- A text as tokens.
use Rattle.std.specs.Prelude.{ℕ, ◌-◌, ◌≡◌, ◌≤◌, true, false, List, [], ◌∷◌, ◌++◌, length, take, drop, map}
use Rattle.std.specs.List.{list_all}
use Rattle.ecd_cast.specs.Lexemes.{Lexeme, IsLongest, is_lexeme, is_blank}
use Rattle.ecd_cgrammar.specs.Faults.{begins_blank}
use Rattle.ecd_clex.specs.declared.token.Token.{Token}

unfoldable pub lexeme_of : List ℕ → Token → Lexeme
lexeme_of text t = take (t.end - t.at) (drop t.at text)

unfoldable pub lexemes : List ℕ → List Token → List Lexeme
lexemes text tokens = map (lexeme_of text) tokens

-- behind the blanks from the place on stands the token, the longest lexeme there
pub record Stands (text : List ℕ) (from : ℕ) (t : Token) : Type 0 where
  pub blanks : List ℕ
  pub blank : list_all is_blank blanks ≡ true
  pub gap : drop from text ≡ blanks ++ drop t.at text
  pub whole : drop t.at text ≡ lexeme_of text t ++ drop t.end text
  pub known : is_lexeme (lexeme_of text t) ≡ true
  pub longest : IsLongest (lexeme_of text t) (drop t.end text)
  pub within : t.end ≤ length text

-- the tokens stand one behind the other between the places
abbrev pub Lexed : List ℕ → ℕ → List Token → ℕ → Type 0
Lexed text from [] to = from ≡ to
Lexed text from (t ∷ ts) to = Stands text from t × Lexed text t.end ts to

-- nothing but blanks stands between the places, and behind them neither a blank nor a lexeme
pub record Ends (text : List ℕ) (from to : ℕ) : Type 0 where
  pub blanks : List ℕ
  pub blank : list_all is_blank blanks ≡ true
  pub gap : drop from text ≡ blanks ++ drop to text
  pub clear : begins_blank (drop to text) ≡ false
  pub none : (l after : List ℕ) → drop to text ≡ l ++ after → is_lexeme l ≡ true → ⊥
  pub within : to ≤ length text

-- all tokens of the text from a place on, up to the end or the first byte that begins none
pub record AllLexed (text : List ℕ) (from : ℕ) (tokens : List Token) (to : ℕ) : Type 0 where
  pub last : ℕ
  pub lexed : Lexed text from tokens last
  pub ends : Ends text last to
