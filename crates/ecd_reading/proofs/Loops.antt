-- Reading one part after the other, as a loop does.
use Rattle.std.proofs.Common.{◌≡◌, ℕ, zero, suc, ◌<◌, Bool, true, false, List, [], ◌∷◌, ◌++◌, length, drop, Result, Ok, Err, refl, sym, ap, ◌∙◌, arith, append_assoc}
use Rattle.std.proofs.lemmas.List.{append-nil}
use Rattle.ecd_reading.specs.Reading.{Taken, Halted, Reader, ◌>>=◌, taken, is_more, many}

-- what was read before, and what is still read
abbrev pub with_front : {T A : Type 0} → List A → Result (Taken T (List A)) (Halted T) → Result (Taken T (List A)) (Halted T)
with_front front read = read >>= λ x. taken (front ++ x.value) x.rest

regroup : {T A : Type 0} (front : List A) (x : A) (read : Result (Taken T (List A)) (Halted T)) → with_front front (read >>= λ xs. taken (x ∷ xs.value) xs.rest) ≡ with_front (front ++ x ∷ []) read
regroup front x (Ok xs) = ap (λ (ys : List _). taken ys xs.rest) (sym (append_assoc front (x ∷ []) xs.value))
regroup front x (Err z) = refl

module _ {T A : Type 0} (end : Reader T (List A)) (test : List T → Bool) (one : Reader T A) where
  pub goes : (n m : ℕ) (front : List A) (ms rest : List T) (x : A) (total : Result (Taken T (List A)) (Halted T)) → n ≡ suc m → test ms ≡ true → one ms ≡ taken x rest
      → with_front front (many test one end n ms) ≡ total → with_front (front ++ x ∷ []) (many test one end m rest) ≡ total
  unfolding many
  goes n m front ms rest x total e yes_ first so_far =
      let one_more : with_front front (many test one end n ms) ≡ with_front (front ++ x ∷ []) (many test one end m rest) = rw (e, yes_, first) (regroup front x (many test one end m rest)) in
      sym one_more ∙ so_far

  pub halted : (z : Halted T) (n m : ℕ) (front : List A) (ms : List T) (total : Result (Taken T (List A)) (Halted T)) → n ≡ suc m → test ms ≡ true → one ms ≡ Err z
      → with_front front (many test one end n ms) ≡ total → total ≡ Err z
  unfolding many
  halted z n m front ms total e yes_ fails so_far =
      let last : with_front front (many test one end n ms) ≡ Err z = rw (e, yes_, fails) refl in
      sym so_far ∙ last

  pub done : (n m : ℕ) (front : List A) (ms : List T) (total : Result (Taken T (List A)) (Halted T)) → n ≡ suc m → test ms ≡ false → with_front front (many test one end n ms) ≡ total → total ≡ taken front ms
  unfolding many
  done n m front ms total e not_ so_far =
      let last : with_front front (many test one end n ms) ≡ taken front ms = rw (e, not_) (ap (λ (xs : List A). taken xs ms) (append-nil front)) in
      sym so_far ∙ last

-- whether there is a token from a number on
pub more_at : {T : Type 0} (n : ℕ) (ms : List T) → n < length ms → is_more (drop n ms) ≡ true
more_at n [] lt = absurd (omega arith)
more_at zero (m ∷ ms) lt = refl
more_at (suc n) (m ∷ ms) lt = more_at n ms (omega arith)
