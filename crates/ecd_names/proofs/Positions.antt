-- The first place at which a test passes.
use Rattle.std.proofs.Common.{ℕ, zero, suc, ◌+◌, ◌≡◌, ◌≤◌, Bool, true, false, ◌||◌, List, [], ◌∷◌, ◌++◌, length, take, refl, ap, sym, ◌∙◌, arith}
use Rattle.std.specs.Prelude.{Option, Some, None, is_some, nat_lt, if◌then◌else◌}
use Rattle.std.specs.List.{list_any, position, position_from}
use Rattle.std.proofs.lemmas.Bool.Decides.{nat_tests}
use Rattle.std.proofs.lemmas.Iterator.Adapters.{position_from-zero}
use Rattle.ecd_names.specs.Parameters.{or_first, comes_before}

module _ {A : Type 0} (p : A → Bool) where
  pub position-from : (xs : List A) → position p xs ≡ position_from p 0 xs
  position-from xs = position_from-zero p xs

  -- one more element
  pub from-push : (n : ℕ) (xs : List A) (x : A) → position_from p n (xs ++ x ∷ []) ≡ or_first (position_from p n xs) (if p x then Some (n + length xs) else None)
  from-push n [] x = by_test (p x)
    where
      by_test : (b : Bool) → (if b then Some n else None) ≡ (if b then Some (n + 0) else None)
      by_test true = let e : n ≡ n + 0 = omega arith in ap Some e
      by_test false = refl
  from-push n (y ∷ ys) x = by_test (p y) (from-push (n + 1) ys x)
    where
      later : n + 1 + length ys ≡ n + length (y ∷ ys)
      later = omega arith

      by_test : (b : Bool) → position_from p (n + 1) (ys ++ x ∷ []) ≡ or_first (position_from p (n + 1) ys) (if p x then Some (n + 1 + length ys) else None) →
          (if b then Some n else position_from p (n + 1) (ys ++ x ∷ [])) ≡ or_first (if b then Some n else position_from p (n + 1) ys) (if p x then Some (n + length (y ∷ ys)) else None)
      by_test true e = refl
      by_test false e = e ∙ ap (λ m. or_first (position_from p (n + 1) ys) (if p x then Some m else None)) later

  -- there is one where some element passes
  pub from-some : (n : ℕ) (xs : List A) → is_some (position_from p n xs) ≡ list_any p xs
  from-some n [] = refl
  from-some n (y ∷ ys) = by_test (p y) (from-some (n + 1) ys)
    where
      by_test : (b : Bool) → is_some (position_from p (n + 1) ys) ≡ list_any p ys → is_some (if b then Some n else position_from p (n + 1) ys) ≡ (b || list_any p ys)
      by_test true e = refl
      by_test false e = e

  at_least : (m : ℕ) (zs : List A) (i : ℕ) → position_from p m zs ≡ Some i → m ≤ i
  at_least m [] i e = absurd cc
  at_least m (z ∷ zs) i e = by_test (p z) (at_least (m + 1) zs i) e
    where
      by_test : (b : Bool) → (position_from p (m + 1) zs ≡ Some i → m + 1 ≤ i) → (if b then Some m else position_from p (m + 1) zs) ≡ Some i → m ≤ i
      by_test true later h = let same : m ≡ i = cc in omega (arith, same)
      by_test false later h = omega (arith, later h)

  -- it comes before a place where some element before that place passes
  pub from-before : (n k : ℕ) (xs : List A) → comes_before (position_from p n xs) (n + k) ≡ list_any p (take k xs)
  from-before n zero [] = refl
  from-before n (suc k) [] = refl
  from-before n zero (y ∷ ys) = not_yet (position_from p n (y ∷ ys)) (at_least n (y ∷ ys))
    where
      not_yet : (o : Option ℕ) → ((i : ℕ) → o ≡ Some i → n ≤ i) → comes_before o (n + 0) ≡ false
      not_yet None h = refl
      not_yet (Some i) h = below i (h i refl)
        where
          below : (i : ℕ) → n ≤ i → nat_lt i (n + 0) ≡ false
          below i h = grind (arith, nat_tests)
  from-before n (suc k) (y ∷ ys) = by_test (p y) (from-before (n + 1) k ys)
    where
      here : nat_lt n (n + suc k) ≡ true
      here = grind (arith, nat_tests)

      moved : n + 1 + k ≡ n + suc k
      moved = omega arith

      by_test : (b : Bool) → comes_before (position_from p (n + 1) ys) (n + 1 + k) ≡ list_any p (take k ys) → comes_before (if b then Some n else position_from p (n + 1) ys) (n + suc k) ≡ (b || list_any p (take k ys))
      by_test true e = here
      by_test false e = ap (λ m. comes_before (position_from p (n + 1) ys) m) (sym moved) ∙ e
