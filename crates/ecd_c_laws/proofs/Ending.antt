-- A program that is read takes all lexemes.
use Rattle.std.proofs.Common.{◌≡◌, ℕ, zero, suc, inl, inr, Bool, true, false, cond, List, [], ◌∷◌, Some, refl, subst}
use Rattle.ecd_cast.specs.declared.tree.Program.{Program}
use Rattle.ecd_cast.specs.Lexemes.{Lexeme}
use Rattle.ecd_cgrammar.specs.Reading.{Reader, ◌>>=◌, taken, deep, many, is_more, after, depth_at, item_at, stmt_at, program_at}
use Rattle.ecd_reading.proofs.Readers.{ok_is, bind_cases}

module _ (A : Type 0) (test : List Lexeme → Bool) (one : Reader A) where
  -- where the test fails, all have been read
  many_ends : (n : ℕ) (ms rest : List Lexeme) (xs : List A) → many test one deep n ms ≡ taken xs rest → test rest ≡ false
  unfolding many
  many_ends zero ms rest xs h = absurd cc
  many_ends (suc n) ms rest xs h = by_test (test ms) refl h (λ m r ys e. many_ends n m r ys e)
    where
      by_test : (b : Bool) → test ms ≡ b → cond b (one ms >>= λ x. many test one deep n x.rest >>= λ xs. taken (x.value ∷ xs.value) xs.rest) (taken [] ms) ≡ taken xs rest
          → ((m r : List Lexeme) (ys : List A) → many test one deep n m ≡ taken ys r → test r ≡ false) → test rest ≡ false
      by_test false e h later = subst (λ (l : List Lexeme). test l ≡ false) (ok_is [] xs ms rest h).1 e
      by_test true e h later = elim (bind_cases (one ms) (λ x. many test one deep n x.rest >>= λ xs. taken (x.value ∷ xs.value) xs.rest) (Some xs) rest h) [
        | inl w ↦ elim (bind_cases (many test one deep n w.0.rest) (λ xs. taken (w.0.value ∷ xs.value) xs.rest) (Some xs) rest w.2) [
          | inl v ↦ subst (λ (l : List Lexeme). test l ≡ false) (ok_is (w.0.value ∷ v.0.value) xs v.0.rest rest v.2).1 (later w.0.rest v.0.rest v.0.value v.1)
          | inr v ↦ absurd cc
        ]
        | inr w ↦ absurd cc
      ]

none_left : (ms : List Lexeme) → is_more ms ≡ false → ms ≡ []
none_left [] e = refl
none_left (m ∷ ms) e = absurd cc

pub takes_all : (size levels : ℕ) (ms rest : List Lexeme) (p : Program) → program_at size levels ms ≡ taken p rest → rest ≡ []
unfolding program_at after
takes_all size levels ms rest p h = elim (bind_cases (depth_at ms) (λ d. many is_more (item_at size (stmt_at size levels)) deep size d.rest >>= λ is. taken (record { depth = d.value; items = is.value }) is.rest) (Some p) rest h) [
  | inl w ↦ elim (bind_cases (many is_more (item_at size (stmt_at size levels)) deep size w.0.rest) (λ is. taken (record { depth = w.0.value; items = is.value }) is.rest) (Some p) rest w.2) [
    | inl v ↦ none_left rest (subst (λ (l : List Lexeme). is_more l ≡ false) (ok_is (record { depth = w.0.value; items = v.0.value }) p v.0.rest rest v.2).1 (many_ends _ is_more (item_at size (stmt_at size levels)) size w.0.rest v.0.rest v.0.value v.1))
    | inr v ↦ absurd cc
  ]
  | inr w ↦ absurd cc
]
