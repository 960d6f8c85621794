-- The definitions of the phases have no hole: what each text, each list of tokens, each list of rules and each schema has.
use Rattle.std.specs.Prelude.{ℕ, ◌≡◌, ◌⊎◌, List}
use Rattle.ecd_lex.specs.declared.token.Token.{Token}
use Rattle.ecd_lex.specs.Lexemes.{Lexemes, FirstFault}
use Rattle.ecd_syntax.specs.declared.tree.Rule.{Rule}
use Rattle.ecd_syntax.specs.declared.tree.Tree.{Tree}
use Rattle.ecd_syntax.specs.Faults.{IsWithin, UnexpectedAt, TooNestedAt}
use Rattle.ecd_syntax.specs.Grammar.{Spells}
use Rattle.ecd_names.specs.Breaks.{BreaksNone, IsFirst}
use Rattle.ecd_judge.specs.declared.refusal.Refusal.{Refusal}
use Rattle.ecd_judge.specs.Request.{Request}
use Rattle.ecd_judge.specs.Schema.{IsSound, IsTold, HasCause as HasJudgedCause}
use Rattle.ecd_compile.specs.Schema.{IsNumber, HasCause}

-- a text is read as tokens, or breaks a first rule of X1 to X6 at a place
abbrev pub TextsAreLexed : Type 0
TextsAreLexed = (text : List ℕ) → ((tokens : List Token) × Lexemes text tokens) ⊎ ((place rule : ℕ) × FirstFault text place rule)

-- tokens of a text that ends there spell a tree with at most 48 brackets open, or have a first unexpected token or end, or a first bracket too many
abbrev pub TokensAreParsed : Type 0
TokensAreParsed = (tokens : List Token) (end : ℕ) →
    ((tree : Tree) × Spells tree tokens × IsWithin tokens) ⊎ (((place : ℕ) × UnexpectedAt tokens end place) ⊎ ((place : ℕ) × TooNestedAt tokens place))

-- a text's rules break none of N1 to N5, or a first of them at a place
abbrev pub NamesAreJudged : Type 0
NamesAreJudged = (text : List Rule) → BreaksNone text ⊎ ((place number : ℕ) × IsFirst text place number)

-- the refusal has its cause, and no other has one
pub record IsOnlyCause (HasCause : Request → Refusal → Type 0) (q : Request) (refusal : Refusal) : Type 0 where
  pub told : IsTold refusal
  pub has : HasCause q refusal
  pub only : (other : Refusal) → IsTold other → HasCause q other → other ≡ refusal

-- a schema breaks no rule, or has one cause of refusal, and never both
abbrev pub SchemasAreJudged : Type 0
SchemasAreJudged = (q : Request) →
    ((rules : List Rule) × IsSound q rules × ((refusal : Refusal) → IsTold refusal → HasJudgedCause q refusal → ⊥))
    ⊎ ((refusal : Refusal) × IsOnlyCause HasJudgedCause q refusal × ((rules : List Rule) → IsSound q rules → ⊥))

-- a schema is one of those that are compiled, or has one cause of refusal, that it is not built among them, and never both
abbrev pub SchemasAreCompiled : Type 0
SchemasAreCompiled = (q : Request) →
    ((number : ℕ) × IsNumber q number × ((refusal : Refusal) → IsTold refusal → HasCause q refusal → ⊥))
    ⊎ ((refusal : Refusal) × IsOnlyCause HasCause q refusal × ((number : ℕ) → IsNumber q number → ⊥))
