-- The number that digits spell, as far as it is below a limit.
use Rattle.std.proofs.Common.{◌≡◌, ℕ, ◌+◌, ◌*◌, ◌≤◌, ◌<◌, List, [], ◌∷◌, min, sym, ◌∙◌, ap, arith, ◌⊎◌, inl, inr, length, drop, get_or}
use Rattle.std.proofs.Math.Nat.{le-mul_of_pos_right, mul-le-mul_right, min-eq_left, min-eq_right}
use Rattle.std.proofs.lemmas.Bool.Decides.{leb_tells}
use Rattle.std.proofs.lemmas.List.{at_drop_more, at_drop_all}
use Rattle.ecd_lex.specs.declared.character.Radix.{Radix}
use Rattle.ecd_lex.specs.declared.character.Radix.TheVariants.{Decimal, Hexadecimal, Binary}
use Rattle.ecd_lex.specs.Characters.{number_after, digit_value, base_of}

le_or_lt : (m n : ℕ) → (m ≤ n) ⊎ (n < m)
le_or_lt m n = elim (leb_tells m n) [ inl h ↦ inl h.1 | inr h ↦ inr h.1 ]

step_capped : (m b d cap : ℕ) → 0 < b → min (min m cap * b + d) cap ≡ min (m * b + d) cap
step_capped m b d cap h =
    let a : cap ≤ cap * b = le-mul_of_pos_right cap h in
    elim (le_or_lt m cap) as (λ _. min (min m cap * b + d) cap ≡ min (m * b + d) cap) [
      | inl l ↦ ap (λ k. min (k * b + d) cap) (min-eq_left l)
      | inr g ↦ (let e : cap ≤ m = omega arith in let f : cap * b ≤ m * b = mul-le-mul_right b e in
          rw (min-eq_right e) (min-eq_right {n = cap} {m = cap * b + d} (omega arith) ∙ sym (min-eq_right {n = cap} {m = m * b + d} (omega arith))))
    ]

base_pos : (radix : Radix) → 0 < base_of radix
unfolding base_of
base_pos Decimal = omega arith
base_pos Hexadecimal = omega arith
base_pos Binary = omega arith

min_again : (k cap : ℕ) → min (min k cap) cap ≡ min k cap
min_again k cap = omega arith

pub number_after-capped : (radix : Radix) (digits : List ℕ) (m n cap : ℕ) → min m cap ≡ min n cap → min (number_after radix m digits) cap ≡ min (number_after radix n digits) cap
unfolding number_after
number_after-capped radix [] m n cap e = e
number_after-capped radix (c ∷ digits) m n cap e =
    number_after-capped radix digits (m * base_of radix + digit_value c) (n * base_of radix + digit_value c) cap
    (sym (step_capped m (base_of radix) (digit_value c) cap (base_pos radix))
    ∙ (ap (λ k. min (k * base_of radix + digit_value c) cap) e
    ∙ step_capped n (base_of radix) (digit_value c) cap (base_pos radix)))

pub number_turn : (radix : Radix) (digits : List ℕ) (i n cap : ℕ) → i < length digits →
    min (number_after radix n (drop i digits)) cap ≡ min (number_after radix (min (n * base_of radix + digit_value (get_or digits i 0)) cap) (drop (i + 1) digits)) cap
unfolding number_after
number_turn radix digits i n cap h =
    ap (λ k. min k cap) (at_drop_more (number_after radix n) digits i 0 h)
    ∙ number_after-capped radix (drop (i + 1) digits) _ _ cap (sym (min_again (n * base_of radix + digit_value (get_or digits i 0)) cap))

pub number_end : (radix : Radix) (digits : List ℕ) (i n : ℕ) → length digits ≤ i → number_after radix n (drop i digits) ≡ n
unfolding number_after
number_end radix digits i n h = at_drop_all (number_after radix n) digits i h
