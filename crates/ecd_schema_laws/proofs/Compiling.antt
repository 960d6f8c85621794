-- A schema is compiled, or it has a cause of refusal.
use Rattle.std.proofs.Common.{ℕ, ◌⊎◌, inl, inr, List}
use Rattle.ecd_syntax.specs.declared.tree.Rule.{Rule}
use Rattle.ecd_judge.specs.declared.refusal.Refusal.{Refusal}
use Rattle.ecd_judge.specs.declared.refusal.Refusal.TheVariants.{NotBuilt}
use Rattle.ecd_judge.specs.Request.{Request}
use Rattle.ecd_judge.specs.Schema.{IsSound, IsTold}
use Rattle.ecd_compile.specs.Schema.{IsNumber, HasCause}
use Rattle.ecd_compile.specs.Thin.{IsThin}
use Rattle.ecd_compile.proofs.Causes.{judged_cause, one_cause, never_refused}
use Rattle.ecd_schema_laws.specs.Laws.{SchemasAreCompiled}
use Rattle.ecd_schema_laws.proofs.Judging.{judged}
use Rattle.ecd_schema_laws.proofs.Thin.{thin}

abbrev Compiled : Request → Type 0
Compiled q = ((number : ℕ) × IsNumber q number) ⊎ ((refusal : Refusal) × IsTold refusal × HasCause q refusal)

by_rules : (q : Request) (rules : List Rule) → IsSound q rules → ((n : ℕ) × IsThin rules q.root n) ⊎ ((n : ℕ) → IsThin rules q.root n → ⊥) → Compiled q
by_rules q rules sound (inl t) = inl (t.0, record { rules = rules; sound = sound; thin = t.1 })
by_rules q rules sound (inr none) = inr (NotBuilt, tt, record { rules = rules; sound = sound; other = none })

compiled : (q : Request) → Compiled q
compiled q = elim (judged q) [
  | inl s ↦ by_rules q s.0 s.1 (thin s.0 q.root)
  | inr r ↦ inr (r.0, r.1, judged_cause q r.0 r.2)
]

pub schemas_are_compiled : SchemasAreCompiled
schemas_are_compiled q = elim (compiled q) [
  | inl n ↦ inl (n.0, n.1, λ refusal told has. never_refused q n.0 refusal n.1 told has)
  | inr r ↦ inr (r.0, record { told = r.1; has = r.2; only = λ other told has. one_cause q other r.0 told r.1 has r.2 }, λ number is. never_refused q number r.0 is r.1 r.2)
]
