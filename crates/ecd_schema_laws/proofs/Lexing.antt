-- A text is read token by token, up to its end or to a fault.
use Rattle.std.proofs.Common.{◌≡◌, ◌↔◌, ℕ, zero, suc, ◌+◌, ◌-◌, ◌<◌, ◌≤◌, ◌⊎◌, inl, inr, Bool, true, false, ◌&&◌, List, [], ◌∷◌, length, drop, refl, arith, Result, Ok, Err}
use Rattle.std.specs.Prelude.{nat_eq}
use Rattle.std.proofs.lemmas.Bool.{cases_eq, and_parts, and_from, eqb-true, eq-eqb}
use Rattle.ecd_lex.specs.declared.found.Found.{Found}
use Rattle.ecd_lex.specs.declared.token.Token.{Token}
use Rattle.ecd_lex.specs.Lexemes.{Lexemes, FirstFault, Reads, IsTrailing, TokenStands, FaultStands}
use Rattle.ecd_lex.specs.Scan.{Fault, gap_len, front_found}
use Rattle.ecd_lex.proofs.Steps.{next_end, next_some, next_stands, next_fault}
use Rattle.ecd_schema_laws.specs.Laws.{TextsAreLexed}

module _ (text : List ℕ) where
  -- what stands in the text from a place on: tokens and their end, or tokens and a fault
  abbrev All : Bool → ℕ → Type 0
  All follows at = (tokens : List Token) × (rest : List ℕ) × Reads (length text) follows (drop at text) tokens rest × IsTrailing rest

  abbrev Faulty : Bool → ℕ → Type 0
  Faulty follows at = (tokens : List Token) × (rest : List ℕ) × (place : ℕ) × (rule : ℕ) × Reads (length text) follows (drop at text) tokens rest × FaultStands (length text) rest place rule

  abbrev Read : Bool → ℕ → Type 0
  Read follows at = All follows at ⊎ Faulty follows at

  -- behind a first token
  behind : (follows : Bool) (at : ℕ) (token : Token) → TokenStands (length text) follows (drop at text) token (drop token.end text) → Read true token.end → Read follows at
  behind follows at token stands (inl r) = inl (token ∷ r.0, r.1, (drop token.end text, stands, r.2), r.3)
  behind follows at token stands (inr r) = inr (token ∷ r.0, r.1, r.2, r.3, (drop token.end text, stands, r.4), r.5)

  module _ (follows : Bool) (at : ℕ) (inside : at ≤ length text) where
    gap : ℕ
    gap = gap_len false (drop at text)

    is_gap : gap ≡ gap_len false (drop at text)
    unfolding gap
    is_gap = refl

    glued : Bool
    glued = follows && nat_eq (at + gap) at

    is_glued : (glued ≡ true) ↔ ((follows ≡ true) × (at + gap ≡ at))
    unfolding glued
    is_glued = (λ g. let p = and_parts follows (nat_eq (at + gap) at) g in (p.0, eqb-true (at + gap) at p.1), λ p. and_from follows (nat_eq (at + gap) at) p.0 (eq-eqb (at + gap) at p.1))

    next_token : Found → Token
    next_token found = record { at = at + gap; end = at + gap + found.end; glued = glued; kind = found.kind }

    by_front : ((end : ℕ) → at < end → end ≤ length text → Read true end) → 0 < length (drop (at + gap) text) → (o : Result Found Fault) → front_found (drop (at + gap) text) ≡ o → Read follows at
    unfolding next_token
    by_front later more (Ok found) e =
        let some = next_some text at gap is_gap inside found more e in
        behind follows at (next_token found) (next_stands text at gap is_gap inside found follows glued more e is_glued) (later (at + gap + found.end) (omega (arith, some.0)) some.1)
    by_front later more (Err fault) e = inr ([], drop at text, at + gap + fault.0, fault.1, refl, next_fault text at gap is_gap inside fault.0 fault.1 more e)

    read_next : ((end : ℕ) → at < end → end ≤ length text → Read true end) → Read follows at
    read_next later = elim (cases_eq (length (drop (at + gap) text)) 0) [
      | inl none ↦ inl ([], drop at text, refl, next_end text at gap is_gap inside none)
      | inr some ↦ by_front later (omega (arith, some)) (front_found (drop (at + gap) text)) refl
    ]

  read_from : (left : ℕ) (follows : Bool) (at : ℕ) → at ≤ length text → length text - at < left → Read follows at
  read_from zero follows at inside lt = absurd (omega arith)
  read_from (suc left) follows at inside lt = read_next follows at inside (λ end further within. read_from left true end within (omega arith))

  lexed : Read false 0 → ((tokens : List Token) × Lexemes text tokens) ⊎ ((place : ℕ) × (rule : ℕ) × FirstFault text place rule)
  lexed (inl r) = inl (r.0, record { rest = r.1; reads = r.2; trailing = r.3 })
  lexed (inr r) = inr (r.2, r.3, record { tokens = r.0; rest = r.1; reads = r.4; fault = r.5 })

pub texts_are_lexed : TextsAreLexed
texts_are_lexed text = lexed text (read_from text (suc (length text)) false 0 (omega arith) (omega arith))
