-- A broken rule stands within the text.
use Rattle.std.proofs.Common.{◌≡◌, ◌⊎◌, inl, inr, ℕ, ◌+◌, ◌*◌, ◌≤◌, suc, List, [], ◌∷◌, length, refl, ap, arith, eqb, length-append, Option, Some, None, Result, Ok, Err}
use Rattle.std.specs.Char.{encode_utf8}
use Rattle.ecd_lex.specs.declared.token.TokenKind.{TokenKind}
use Rattle.ecd_lex.specs.declared.token.TokenKind.TheVariants as kinds
use Rattle.ecd_lex.specs.declared.character.Radix.TheVariants.{Hexadecimal}
use Rattle.ecd_lex.specs.Characters.{is_digit, digit_value}
use Rattle.ecd_lex.specs.Forms.{decoded, escaped, coded, escape_of, with_front, with_escape, is_unit, unit_of, hex_after, is_hex_space}
use Rattle.ecd_lex.specs.Faults.{EndsInNumber, Breaks}
use Rattle.ecd_lex.proofs.Booleans.{tests}

front_err : (front : List ℕ) (n : ℕ) (r : Result (List ℕ) ℕ) (o : ℕ) → with_front front n r ≡ Err o → (k : ℕ) × (r ≡ Err k) × (o ≡ n + k)
front_err front n (Ok bytes) o e = cc
front_err front n (Err k) o e = (k, refl, cc)

zero_err : (o : ℕ) → ◌≡◌ {A = Result (List ℕ) ℕ} (Err 0) (Err o) → o ≡ 0
zero_err o e = cc

no_fault : (A : Type 0) (bytes : List ℕ) (o : ℕ) → ◌≡◌ {A = Result (List ℕ) ℕ} (Ok bytes) (Err o) → A
no_fault A bytes o e = cc

escape_err : (x : Option ℕ) (r : Result (List ℕ) ℕ) (o : ℕ) → with_escape x r ≡ Err o → (o ≡ 0) ⊎ ((k : ℕ) × (r ≡ Err k) × (o ≡ 2 + k))
escape_err None r o e = inl (zero_err o e)
escape_err (Some c) r o e = inr (front_err (c ∷ []) 2 r o e)

mutual
  unfolding decoded

  pub decoded_within : (quote : ℕ) (body : List ℕ) (o : ℕ) → decoded quote body ≡ Err o → o ≤ length body
  decoded_within quote [] o e = no_fault (o ≤ 0) [] o e
  decoded_within quote (c ∷ body) o e = elim (tests (eqb c 92)) as (λ _. o ≤ suc (length body)) [
    | inl h ↦ escaped_within quote body o (rw h at e)
    | inr h ↦ (let w = front_err (c ∷ []) 1 (decoded quote body) o (rw h at e) in let k = decoded_within quote body w.0 w.1 in omega (arith, w.2, k))
  ]

  escaped_within : (quote : ℕ) (body : List ℕ) (o : ℕ) → escaped quote body ≡ Err o → o ≤ suc (length body)
  escaped_within quote [] o e = let z = zero_err o e in omega (arith, z)
  escaped_within quote (c ∷ body) o e = elim (tests (eqb c 117)) as (λ _. o ≤ suc (suc (length body))) [
    | inl h ↦ coded_within quote body o (rw h at e)
    | inr h ↦ elim (escape_err (escape_of quote c) (decoded quote body) o (rw h at e)) as (λ _. o ≤ suc (suc (length body))) [
      | inl z ↦ omega (arith, z)
      | inr w ↦ (let k = decoded_within quote body w.0 w.1 in omega (arith, w.2, k))
    ]
  ]

  coded_within : (quote : ℕ) (body : List ℕ) (o : ℕ) → coded quote body ≡ Err o → o ≤ suc (suc (length body))
  coded_within quote [] o e = let z = zero_err o e in omega (arith, z)
  coded_within quote (a ∷ []) o e = let z = zero_err o e in omega (arith, z)
  coded_within quote (a ∷ b ∷ []) o e = let z = zero_err o e in omega (arith, z)
  coded_within quote (a ∷ b ∷ c ∷ []) o e = let z = zero_err o e in omega (arith, z)
  coded_within quote (a ∷ b ∷ c ∷ d ∷ body) o e = elim (tests (is_unit a b c d)) as (λ _. o ≤ suc (suc (suc (suc (suc (suc (length body))))))) [
    | inl h ↦ (let w = front_err (encode_utf8 (unit_of a b c d)) 6 (decoded quote body) o (rw h at e) in let k = decoded_within quote body w.0 w.1 in omega (arith, w.2, k))
    | inr h ↦ (let z = zero_err o (rw h at e) in omega (arith, z))
  ]

pub hex_within : (first : Option ℕ) (body : List ℕ) (o : ℕ) → hex_after first body ≡ Err o → o ≤ length body
unfolding hex_after
hex_within None [] o e = no_fault (o ≤ 0) [] o e
hex_within (Some first) [] o e = let z = zero_err o e in omega (arith, z)
hex_within None (c ∷ body) o e = elim (tests (is_hex_space c)) as (λ _. o ≤ suc (length body)) [
  | inl h ↦ (let w = front_err [] 1 (hex_after None body) o (rw h at e) in let k = hex_within None body w.0 w.1 in omega (arith, w.2, k))
  | inr h ↦ elim (tests (is_digit Hexadecimal c)) as (λ _. o ≤ suc (length body)) [
    | inl d ↦ (let w = front_err [] 1 (hex_after (Some (digit_value c)) body) o (rw (h, d) at e) in let k = hex_within (Some (digit_value c)) body w.0 w.1 in omega (arith, w.2, k))
    | inr d ↦ (let z = zero_err o (rw (h, d) at e) in omega (arith, z))
  ]
]
hex_within (Some first) (c ∷ body) o e = elim (tests (is_hex_space c)) as (λ _. o ≤ suc (length body)) [
  | inl h ↦ (let w = front_err [] 1 (hex_after (Some first) body) o (rw h at e) in let k = hex_within (Some first) body w.0 w.1 in omega (arith, w.2, k))
  | inr h ↦ elim (tests (is_digit Hexadecimal c)) as (λ _. o ≤ suc (length body)) [
    | inl d ↦ (let w = front_err ((16 * first + digit_value c) ∷ []) 1 (hex_after None body) o (rw (h, d) at e) in let k = hex_within None body w.0 w.1 in omega (arith, w.2, k))
    | inr d ↦ (let z = zero_err o (rw (h, d) at e) in omega (arith, z))
  ]
]

ends_within : (kind : TokenKind) (bytes : List ℕ) (offset : ℕ) → EndsInNumber kind bytes offset → offset ≤ length bytes
ends_within (kinds.Int value) bytes offset e = omega (arith, e)
ends_within kinds.Float bytes offset e = omega (arith, e)
ends_within (kinds.Hash major arg) bytes offset e = omega (arith, e)
ends_within (kinds.Occur lo hi) bytes offset e = omega (arith, e.1)
ends_within (kinds.Name x) bytes offset e = absurd e
ends_within (kinds.Text chars) bytes offset e = absurd e
ends_within (kinds.Bytes made) bytes offset e = absurd e
ends_within (kinds.Control x) bytes offset e = absurd e
ends_within (kinds.Sign sign) bytes offset e = absurd e

pub breaks_within : (text : List ℕ) (offset rule : ℕ) → Breaks text offset rule → offset ≤ length text
breaks_within text offset rule (inl (r, b)) = omega (arith, b.front)
breaks_within text offset rule (inr (inl (r, inl s))) = omega (arith, s.front)
breaks_within text offset rule (inr (inl (r, inr s))) = omega (arith, s.behind, ap length s.is)
breaks_within text offset rule (inr (inr (inl (r, s)))) = let k = decoded_within s.quote s.body s.at_ s.bad in omega (arith, k, s.behind, ap length s.is, length-append s.body (s.quote ∷ s.more))
breaks_within text offset rule (inr (inr (inr (inl (r, inl (p, z)))))) = omega (arith, z)
breaks_within text offset rule (inr (inr (inr (inl (r, inr (n, g)))))) = let k = ends_within g.kind g.bytes offset g.ends in omega (arith, k, ap length g.is, length-append g.bytes (g.next ∷ g.more))
breaks_within text offset rule (inr (inr (inr (inr (inl (r, s)))))) = let k = hex_within None s.body s.at_ s.bad in omega (arith, k, s.behind, ap length s.is, length-append s.body (39 ∷ s.more))
breaks_within text offset rule (inr (inr (inr (inr (inr (r, s)))))) = omega (arith, s.front)
