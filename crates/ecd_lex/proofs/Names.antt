-- How far a name goes.
use Rattle.std.proofs.Common.{◌≡◌, ◌≢◌, inl, inr, ℕ, ◌≤◌, ◌<◌, suc, zero, Bool, true, false, ◌&&◌, List, [], ◌∷◌, ◌++◌, length, take, refl, arith, one-add}
use Rattle.std.specs.Prelude.{nat_lt}
use Rattle.std.proofs.lemmas.Bool.Decides.{nat_tests}
use Rattle.ecd_lex.specs.Characters.{is_name_byte, is_link, is_name_start, is_decimal, is_letter}
use Rattle.ecd_lex.specs.Forms.{IsNameRest}
use Rattle.ecd_lex.specs.Scan.{name_rest}
use Rattle.ecd_lex.proofs.Booleans.{tests}

no_link : (c : ℕ) → is_link c ≡ true → is_name_byte c ≡ false
unfolding is_link is_name_byte is_name_start is_letter is_decimal
no_link c e = grind (arith, nat_tests)

-- the length by a first byte
name_rest_byte : (c : ℕ) (text : List ℕ) → is_name_byte c ≡ true → name_rest (c ∷ text) ≡ suc (name_rest text)
unfolding name_rest
name_rest_byte c text e = rw (e, one-add) refl

name_rest_link : (c : ℕ) (text : List ℕ) → is_link c ≡ true → 0 < name_rest text → name_rest (c ∷ text) ≡ suc (name_rest text)
unfolding name_rest
name_rest_link c text e h = let l : nat_lt 0 (name_rest text) ≡ true = grind (arith, nat_tests) in rw (no_link c e, e, l, one-add) refl

name_rest_none : (c : ℕ) (text : List ℕ) → is_name_byte c ≡ false → (is_link c && nat_lt 0 (name_rest text)) ≡ false → name_rest (c ∷ text) ≡ 0
unfolding name_rest
name_rest_none c text e f = rw (e, f) refl

and_true : (a b : Bool) → (a && b) ≡ true → (a ≡ true) × (b ≡ true)
and_true true true e = (refl, refl)
and_true true false e = cc
and_true false b e = cc

some_rest : (text : List ℕ) → nat_lt 0 (name_rest text) ≡ true → 0 < name_rest text
some_rest text e = grind (arith, nat_tests)

take_some : (n : ℕ) (text : List ℕ) → 0 < n → 0 < length text → take n text ≢ []
take_some n [] h k e = omega arith
take_some zero (c ∷ text) h k e = omega arith
take_some (suc n) (c ∷ text) h k e = cc

pub name_rest_within : (text : List ℕ) → name_rest text ≤ length text
unfolding name_rest
name_rest_within [] = omega arith
name_rest_within (c ∷ text) = let h = name_rest_within text in grind (arith, nat_tests)

name_rest_nil : name_rest [] ≡ 0
unfolding name_rest
name_rest_nil = refl

pub name_rest_sound : (text : List ℕ) → IsNameRest (take (name_rest text) text)
name_rest_sound [] = rw name_rest_nil tt
name_rest_sound (c ∷ text) = elim (tests (is_name_byte c)) as (λ _. IsNameRest (take (name_rest (c ∷ text)) (c ∷ text))) [
  | inl e ↦ rw (name_rest_byte c text e) (inl e, name_rest_sound text)
  | inr e ↦ elim (tests (is_link c && nat_lt 0 (name_rest text))) as (λ _. IsNameRest (take (name_rest (c ∷ text)) (c ∷ text))) [
    | inl f ↦ (let g = and_true (is_link c) (nat_lt 0 (name_rest text)) f in let s = some_rest text g.1 in let w = name_rest_within text in
        rw (name_rest_link c text g.0 s) (inr (g.0, take_some (name_rest text) text s (omega arith)), name_rest_sound text))
    | inr f ↦ rw (name_rest_none c text e f) tt
  ]
]

pub name_rest_most : (bytes more : List ℕ) → IsNameRest bytes → length bytes ≤ name_rest (bytes ++ more)
name_rest_most [] more n = omega arith
name_rest_most (c ∷ []) more (inl e, n) = rw (name_rest_byte c more e) (omega arith)
name_rest_most (c ∷ []) more (inr e, n) = absurd (e.1 refl)
name_rest_most (c ∷ d ∷ bytes) more (inl e, n) = let h = name_rest_most (d ∷ bytes) more n in rw (name_rest_byte c ((d ∷ bytes) ++ more) e) (omega arith)
name_rest_most (c ∷ d ∷ bytes) more (inr e, n) = let h = name_rest_most (d ∷ bytes) more n in rw (name_rest_link c ((d ∷ bytes) ++ more) e.0 (omega arith)) (omega arith)
