-- A schema goes through the phases up to its first fault.
use Rattle.std.proofs.Common.{ℕ, zero, suc, ◌≤◌, ◌⊎◌, inl, inr, List, length, take, refl, subst, arith}
use Rattle.std.specs.Str.{IsUtf8, IsValidUpTo, is_utf8}
use Rattle.std.proofs.lemmas.Bool.{cases_eq}
use Rattle.std.proofs.lemmas.Str.{IsUtf8-from_is_utf8, is_utf8-from_IsUtf8, IsUtf8-nil}
use Rattle.ecd_lex.specs.declared.token.Token.{Token}
use Rattle.ecd_lex.specs.Lexemes.{Lexemes, FirstFault}
use Rattle.ecd_syntax.specs.declared.tree.Rule.{Rule}
use Rattle.ecd_syntax.specs.declared.tree.Tree.{Tree}
use Rattle.ecd_syntax.specs.Faults.{IsWithin, UnexpectedAt, TooNestedAt}
use Rattle.ecd_syntax.specs.Grammar.{Spells}
use Rattle.ecd_names.specs.Breaks.{BreaksNone, IsFirst}
use Rattle.ecd_names.proofs.Walking.{take-all}
use Rattle.ecd_judge.specs.declared.refusal.Refusal.{Refusal}
use Rattle.ecd_judge.specs.declared.refusal.Refusal.TheVariants.{NotUtf8, Lex, Parse, Name}
use Rattle.ecd_judge.specs.Request.{Request}
use Rattle.ecd_judge.specs.Schema.{IsSchema, IsSound, IsTold, HasCause}
use Rattle.ecd_judge.proofs.Causes.{one_cause, never_refused}
use Rattle.ecd_schema_laws.specs.Laws.{SchemasAreJudged}
use Rattle.ecd_schema_laws.proofs.Deciding.{Decided, decided_test, decided_as}
use Rattle.ecd_schema_laws.proofs.Breaking.{names_are_judged}
use Rattle.ecd_schema_laws.proofs.Lexing.{texts_are_lexed}
use Rattle.ecd_schema_laws.proofs.Parsing.{tokens_are_parsed}

-- ---- UTF-8

decided_utf8 : (bytes : List ℕ) → Decided (IsUtf8 bytes)
decided_utf8 bytes = decided_as (λ e. IsUtf8-from_is_utf8 bytes e) (λ u. is_utf8-from_IsUtf8 bytes u) (decided_test (is_utf8 bytes))

module _ (bytes : List ℕ) (bad : IsUtf8 bytes → ⊥) where
  -- no front of so many bytes or more is UTF-8
  abbrev NoneFrom : ℕ → Type 0
  NoneFrom n = (m : ℕ) → n ≤ m → IsUtf8 (take m bytes) → ⊥

  longest_below : (n : ℕ) → n ≤ length bytes → NoneFrom n → (place : ℕ) × IsValidUpTo bytes place
  longest_below zero le none = absurd (none 0 (omega arith) IsUtf8-nil)
  longest_below (suc n) le none = elim (decided_utf8 (take n bytes)) [
    | inl front ↦ (n, record { short = omega arith; front = front; longest = λ m more u. none m (omega arith) u })
    | inr fails ↦ longest_below n (omega arith) (λ m from u. elim (cases_eq m n) [ inl same ↦ fails (subst (λ (k : ℕ). IsUtf8 (take k bytes)) same u) | inr other ↦ none m (omega (arith, other)) u ])
  ]

  longest_front : (place : ℕ) × IsValidUpTo bytes place
  longest_front = longest_below (length bytes) (omega arith) (λ m from u. bad (subst IsUtf8 (take-all bytes m from) u))

-- ---- from phase to phase

abbrev Judged : Request → Type 0
Judged q = ((rules : List Rule) × IsSound q rules) ⊎ ((refusal : Refusal) × IsTold refusal × HasCause q refusal)

module _ (q : Request) (utf8 : IsUtf8 q.schema) where
  by_names : (tree : Tree) → IsSchema q.schema tree → BreaksNone tree.rules ⊎ ((place : ℕ) × (number : ℕ) × IsFirst tree.rules place number) → Judged q
  by_names tree parsed (inl none) = inl (tree.rules, record { tree = tree; parsed = parsed; sound = none; is = refl })
  by_names tree parsed (inr f) = inr (Name f.0 f.1, tt, record { tree = tree; schema = parsed; first = f.2 })

  by_tokens : (tokens : List Token) → Lexemes q.schema tokens → ((tree : Tree) × Spells tree tokens × IsWithin tokens) ⊎ (((place : ℕ) × UnexpectedAt tokens (length q.schema) place) ⊎ ((place : ℕ) × TooNestedAt tokens place)) → Judged q
  by_tokens tokens lexemes (inl t) = by_names t.0 (record { tokens = tokens; utf8 = utf8; lexemes = lexemes; spells = t.1; within = t.2 }) (names_are_judged t.0.rules)
  by_tokens tokens lexemes (inr (inl u)) = inr (Parse u.0 1, tt, record { tokens = tokens; utf8 = utf8; lexemes = lexemes; fault = inl (refl, u.1) })
  by_tokens tokens lexemes (inr (inr n)) = inr (Parse n.0 2, tt, record { tokens = tokens; utf8 = utf8; lexemes = lexemes; fault = inr (refl, n.1) })

  by_text : ((tokens : List Token) × Lexemes q.schema tokens) ⊎ ((place : ℕ) × (rule : ℕ) × FirstFault q.schema place rule) → Judged q
  by_text (inl l) = by_tokens l.0 l.1 (tokens_are_parsed l.0 (length q.schema))
  by_text (inr f) = inr (Lex f.0 f.1, tt, record { utf8 = utf8; first = f.2 })

pub judged : (q : Request) → Judged q
judged q = elim (decided_utf8 q.schema) [
  | inl utf8 ↦ by_text q utf8 (texts_are_lexed q.schema)
  | inr bad ↦ let f = longest_front q.schema bad in inr (NotUtf8 f.0, tt, record { bad = bad; stands = f.1 })
]

pub schemas_are_judged : SchemasAreJudged
schemas_are_judged q = elim (judged q) [
  | inl s ↦ inl (s.0, s.1, λ refusal told has. never_refused q s.0 refusal s.1 told has)
  | inr r ↦ inr (r.0, record { told = r.1; has = r.2; only = λ other told has. one_cause q other r.0 told r.1 has r.2 }, λ rules sound. never_refused q rules r.0 sound r.1 r.2)
]
