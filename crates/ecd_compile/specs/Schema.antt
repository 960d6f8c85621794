-- Which schemas are compiled, and why one is refused.
use Rattle.std.specs.Prelude.{ℕ, ◌≡◌, List}
use Rattle.ecd_syntax.specs.declared.tree.Rule.{Rule}
use Rattle.ecd_judge.specs.declared.refusal.Refusal.{Refusal}
use Rattle.ecd_judge.specs.declared.refusal.Refusal.TheVariants.{NotUtf8, Lex, Parse, Name, NotBuilt, OutOfMemory}
use Rattle.ecd_judge.specs.Request.{Request}
use Rattle.ecd_judge.specs.Schema.{IsSound, IsTold, HasCause as HasJudgedCause}
use Rattle.ecd_compile.specs.Thin.{IsThin}

-- the schema breaks no rule, and its root stands for this one number: the schemas that are compiled so far
pub record IsNumber (q : Request) (number : ℕ) : Type 0 where
  pub rules : List Rule
  pub sound : IsSound q rules
  pub thin : IsThin rules q.root number

-- a schema that is not compiled yet, though it breaks no rule
pub record IsNotThin (q : Request) : Type 0 where
  pub rules : List Rule
  pub sound : IsSound q rules
  pub other : (n : ℕ) → IsThin rules q.root n → ⊥

-- what makes a schema be refused so. Each rules out the others, and that the schema is compiled.
abbrev pub HasCause : Request → Refusal → Type 0
HasCause q (NotUtf8 place) = HasJudgedCause q (NotUtf8 place)
HasCause q (Lex place rule) = HasJudgedCause q (Lex place rule)
HasCause q (Parse place rule) = HasJudgedCause q (Parse place rule)
HasCause q (Name place rule) = HasJudgedCause q (Name place rule)
HasCause q NotBuilt = IsNotThin q
HasCause q OutOfMemory = Unit {0}

-- a schema is refused for one cause, at one place
abbrev pub HasOneCause : Type 0
HasOneCause = (q : Request) (r s : Refusal) → IsTold r → IsTold s → HasCause q r → HasCause q s → r ≡ s
