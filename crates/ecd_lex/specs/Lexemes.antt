-- A text as white space, comments and lexemes in turn.
use Rattle.std.specs.Prelude.{◌≡◌, ◌≢◌, ◌↔◌, ℕ, ◌+◌, ◌<◌, ◌≤◌, Bool, true, false, not, IsTrue, IsFalse, ◌==◌, List, [], ◌∷◌, ◌++◌, length, slice_index}
use Rattle.std.specs.Bool.{MatchBool}
use Rattle.ecd_lex.specs.declared.token.Token.{Token}
use Rattle.ecd_lex.specs.declared.token.TokenKind.{TokenKind}
use Rattle.ecd_lex.specs.declared.text.LexFault.{LexFault}
use Rattle.ecd_lex.specs.declared.text.LexFault.TheVariants.{At, OutOfMemory}
use Rattle.ecd_lex.specs.Characters.{is_blank, is_white, Each}
use Rattle.ecd_lex.specs.Forms.{IsLexeme, IsLongest}
use Rattle.ecd_lex.specs.Faults.{Breaks}

-- S = *WS: white space, and comments up to their line feeds
unfoldable mutual
  pub IsGap : List ℕ → Type 0
  IsGap [] = Unit {0}
  IsGap (c ∷ text) = MatchBool (c == 59) (IsComment text) (MatchBool (c == 13) (IsLineEnd text) (IsTrue (is_blank c) × IsGap text))

  -- behind a semicolon
  pub IsComment : List ℕ → Type 0
  IsComment [] = ⊥
  IsComment (c ∷ text) = MatchBool (c == 10) (IsGap text) (IsComment text)

  -- behind a carriage return
  pub IsLineEnd : List ℕ → Type 0
  IsLineEnd [] = ⊥
  IsLineEnd (c ∷ text) = (c ≡ 10) × IsGap text

-- a comment that ends with the text, or none
abbrev pub IsLastComment : List ℕ → Type 0
IsLastComment [] = Unit {0}
IsLastComment (c ∷ text) = (c ≡ 59) × Each (λ d. not (d == 10)) text

-- nothing but white space and comments
pub record IsTrailing (text : List ℕ) : Type 0 where
  pub gap : List ℕ
  pub comment : List ℕ
  pub is : text ≡ gap ++ comment
  pub blank : IsGap gap
  pub last : IsLastComment comment

-- something, and neither white space nor a comment first
abbrev pub IsFront : List ℕ → Type 0
IsFront [] = ⊥
IsFront (c ∷ text) = IsFalse (is_white c (slice_index text 0)) × (c ≢ 59)

-- the lexeme of this kind at the front of the text: the longest, and no rule is broken there
pub record Stands (kind : TokenKind) (bytes more : List ℕ) : Type 0 where
  pub lexeme : IsLexeme kind bytes
  pub longest : IsLongest (bytes ++ more) bytes
  pub unbroken : (offset rule : ℕ) → ¬ Breaks (bytes ++ more) offset rule

-- the first token of what is left of a text of so many bytes, and what is left behind it
pub record TokenStands (whole : ℕ) (follows : Bool) (text : List ℕ) (token : Token) (rest : List ℕ) : Type 0 where
  pub gap : List ℕ
  pub bytes : List ℕ
  pub is : text ≡ gap ++ (bytes ++ rest)
  pub blank : IsGap gap
  pub stands : Stands token.kind bytes rest
  pub begins : token.at + length (bytes ++ rest) ≡ whole
  pub ends : token.end + length rest ≡ whole
  pub glued : IsTrue token.glued ↔ (IsTrue follows × (gap ≡ []))

-- tokens, one after the other, and what is left behind them
abbrev pub Reads : (whole : ℕ) (follows : Bool) (text : List ℕ) (tokens : List Token) (rest : List ℕ) → Type 0
Reads whole follows text [] rest = text ≡ rest
Reads whole follows text (token ∷ tokens) rest = (more : List ℕ) × TokenStands whole follows text token more × Reads whole true more tokens rest

-- the text is white space and lexemes in turn, each lexeme the longest at its place, and no rule is broken
pub record Lexemes (text : List ℕ) (tokens : List Token) : Type 0 where
  pub rest : List ℕ
  pub reads : Reads (length text) false text tokens rest
  pub trailing : IsTrailing rest

-- the rule that is broken behind white space and comments, and where, in what is left of a text of so many bytes
pub record FaultStands (whole : ℕ) (text : List ℕ) (place rule : ℕ) : Type 0 where
  pub gap : List ℕ
  pub front : List ℕ
  pub offset : ℕ
  pub is : text ≡ gap ++ front
  pub blank : IsGap gap
  pub begins : IsFront front
  pub breaks : Breaks front offset rule
  pub stands : place + length front ≡ whole + offset

-- the first rule that is broken, and where: lexemes lead up to it
pub record FirstFault (text : List ℕ) (place rule : ℕ) : Type 0 where
  pub tokens : List Token
  pub rest : List ℕ
  pub reads : Reads (length text) false text tokens rest
  pub fault : FaultStands (length text) rest place rule

-- a fault by its place and rule, if it is not want of memory
abbrev pub IfAt : LexFault → (ℕ → ℕ → Type 0) → Type 0
IfAt (At place rule) P = P place rule
IfAt OutOfMemory P = Unit {0}

-- the fault at that place of that rule, or want of memory
abbrev pub IsAt : LexFault → ℕ → ℕ → Type 0
IsAt (At place rule) p r = (place ≡ p) × (rule ≡ r)
IsAt OutOfMemory p r = Unit {0}

-- want of memory
abbrev pub IsUnheld : LexFault → Type 0
IsUnheld (At place rule) = ⊥
IsUnheld OutOfMemory = Unit {0}

-- the token has its place in a text of so many bytes
abbrev pub IsInside : (whole : ℕ) → Token → Type 0
IsInside whole token = (token.at < token.end) × (token.end ≤ whole)

-- ---- laws

-- a text has at most one list of tokens
abbrev pub HasOneTokenList : List ℕ → Type 0
HasOneTokenList text = (tokens others : List Token) → Lexemes text tokens → Lexemes text others → tokens ≡ others

-- a text has at most one first fault
abbrev pub HasOneFirstFault : List ℕ → Type 0
HasOneFirstFault text = (place rule other_place other_rule : ℕ) → FirstFault text place rule → FirstFault text other_place other_rule → (place ≡ other_place) × (rule ≡ other_rule)

-- a text that has tokens has no fault
abbrev pub HasTokensOrFault : List ℕ → Type 0
HasTokensOrFault text = (tokens : List Token) (place rule : ℕ) → Lexemes text tokens → FirstFault text place rule → ⊥
