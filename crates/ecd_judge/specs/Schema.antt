-- A schema's text and its tree, and why it is refused.
use Rattle.std.specs.Prelude.{ℕ, ◌≡◌, ◌≤◌, ◌⊎◌, List, length}
use Rattle.std.specs.Str.{IsUtf8, IsValidUpTo}
use Rattle.ecd_lex.specs.declared.token.Token.{Token}
use Rattle.ecd_lex.specs.Lexemes.{Lexemes, FirstFault}
use Rattle.ecd_syntax.specs.declared.tree.Rule.{Rule}
use Rattle.ecd_syntax.specs.declared.tree.Tree.{Tree}
use Rattle.ecd_syntax.specs.Grammar.{Spells}
use Rattle.ecd_syntax.specs.Faults.{IsWithin, UnexpectedAt, TooNestedAt}
use Rattle.ecd_judge.specs.declared.refusal.Refusal.{Refusal}
use Rattle.ecd_judge.specs.declared.refusal.Refusal.TheVariants.{NotUtf8, Lex, Parse, Name, NotBuilt, OutOfMemory}
use Rattle.ecd_names.specs.Breaks.{BreaksNone, IsFirst}
use Rattle.ecd_judge.specs.Request.{Request}

-- the text is UTF-8, and its tokens spell the tree within 48 open brackets
pub record IsSchema (text : List ℕ) (tree : Tree) : Type 0 where
  pub tokens : List Token
  pub utf8 : IsUtf8 text
  pub lexemes : Lexemes text tokens
  pub spells : Spells tree tokens
  pub within : IsWithin tokens

-- P1 stands at the first unexpected token, P2 at the bracket that is one too many
abbrev pub IsSyntaxFault : List Token → (end place rule : ℕ) → Type 0
IsSyntaxFault tokens end place rule = ((rule ≡ 1) × UnexpectedAt tokens end place) ⊎ ((rule ≡ 2) × TooNestedAt tokens place)

-- the first broken rule of the grammar
pub record IsNoSchema (text : List ℕ) (place rule : ℕ) : Type 0 where
  pub tokens : List Token
  pub utf8 : IsUtf8 text
  pub lexemes : Lexemes text tokens
  pub fault : IsSyntaxFault tokens (length text) place rule

-- T0: the bytes are no UTF-8, and the longest front that is ends at the place
pub record IsNoText (text : List ℕ) (place : ℕ) : Type 0 where
  pub bad : IsUtf8 text → ⊥
  pub stands : IsValidUpTo text place

-- the first broken rule of X1 to X6
pub record BreaksLexemes (text : List ℕ) (place rule : ℕ) : Type 0 where
  pub utf8 : IsUtf8 text
  pub first : FirstFault text place rule

-- the first broken rule of N1 to N5
pub record BreaksNames (text : List ℕ) (place rule : ℕ) : Type 0 where
  pub tree : Tree
  pub schema : IsSchema text tree
  pub first : IsFirst tree.rules place rule

-- what makes a schema be refused so. Each rules out the others, and that the schema breaks no rule.
abbrev pub HasCause : Request → Refusal → Type 0
HasCause q (NotUtf8 place) = IsNoText q.schema place
HasCause q (Lex place rule) = BreaksLexemes q.schema place rule
HasCause q (Parse place rule) = IsNoSchema q.schema place rule
HasCause q (Name place rule) = BreaksNames q.schema place rule
HasCause q NotBuilt = ⊥
HasCause q OutOfMemory = Unit {0}

-- the schema breaks no rule, and these are its rules
pub record IsSound (q : Request) (rules : List Rule) : Type 0 where
  pub tree : Tree
  pub parsed : IsSchema q.schema tree
  pub sound : BreaksNone tree.rules
  pub is : rules ≡ tree.rules

-- a refusal that names its cause
abbrev pub IsTold : Refusal → Type 0
IsTold (NotUtf8 place) = Unit {0}
IsTold (Lex place rule) = Unit {0}
IsTold (Parse place rule) = Unit {0}
IsTold (Name place rule) = Unit {0}
IsTold NotBuilt = Unit {0}
IsTold OutOfMemory = ⊥

-- a schema is refused for one cause, at one place
abbrev pub HasOneCause : Type 0
HasOneCause = (q : Request) (r s : Refusal) → IsTold r → IsTold s → HasCause q r → HasCause q s → r ≡ s

-- and for none where it breaks no rule
abbrev pub SoundHasNoCause : Type 0
SoundHasNoCause = (q : Request) (rules : List Rule) (r : Refusal) → IsSound q rules → IsTold r → HasCause q r → ⊥

-- a schema has one list of rules
abbrev pub HasOneMeaning : Type 0
HasOneMeaning = (q : Request) (rules others : List Rule) → IsSound q rules → IsSound q others → rules ≡ others

-- its place is one of a text of so many bytes
abbrev pub StandsWithin : ℕ → Refusal → Type 0
StandsWithin whole (NotUtf8 place) = place ≤ whole
StandsWithin whole (Lex place rule) = place ≤ whole
StandsWithin whole (Parse place rule) = place ≤ whole
StandsWithin whole (Name place rule) = place ≤ whole
StandsWithin whole NotBuilt = Unit {0}
StandsWithin whole OutOfMemory = Unit {0}
