-- Lists that a loop walks over.
use Rattle.std.proofs.Common.{ℕ, zero, suc, ◌+◌, ◌≡◌, ◌<◌, ◌≤◌, ◌⊎◌, inl, inr, List, [], ◌∷◌, ◌++◌, length, take, get_or, refl, ap, sym, ◌∙◌, subst, append-nil, arith}
use Rattle.std.specs.Prelude.{Some, None, slice_get, flat_map}
use Rattle.std.specs.List.{Contains}
use Rattle.std.proofs.lemmas.Grind.{flat_map-append}
use Rattle.std.proofs.lemmas.List.{take_more}
use Rattle.std.proofs.lemmas.List.Elements.{Contains-append_left, Contains-append_right, Contains-append_cases, Contains-push_cases, Contains-push}
use Rattle.std.proofs.lemmas.Option.{slice_get_within, get_or_from_slice_get, slice_get-get_or}

module _ {A : Type 0} where
  pub some_same : {x y : A} → Some x ≡ Some y → x ≡ y
  some_same e = cc

  pub no_element : (xs : List A) (n : ℕ) → n < length xs → None ≡ slice_get xs n → ⊥
  no_element xs n h e =
      let there : slice_get xs n ≡ Some (get_or xs n (first xs n h)) = slice_get-get_or xs n (first xs n h) h in absurd cc
    where
      first : (xs : List A) (n : ℕ) → n < length xs → A
      first [] n h = let none : ⊥ = omega arith in absurd none
      first (x ∷ xs) n h = x

  pub take-more : (xs : List A) (n : ℕ) (x : A) → slice_get xs n ≡ Some x → take (n + 1) xs ≡ take n xs ++ x ∷ []
  take-more xs n x e = take_more xs n x (slice_get_within xs n x e) ∙ ap (λ y. take n xs ++ y ∷ []) (get_or_from_slice_get xs n x x e)

  pub take-all : (xs : List A) (n : ℕ) → length xs ≤ n → take n xs ≡ xs
  take-all [] zero h = refl
  take-all [] (suc n) h = refl
  take-all (x ∷ xs) zero h = absurd (omega arith)
  take-all (x ∷ xs) (suc n) h = ap (λ l. x ∷ l) (take-all xs n (omega arith))

  -- ---- elements

  pub none_in : (x : A) → Contains [] x → ⊥
  none_in x c = omega (arith, c.1)

  pub only_in : (x y : A) → Contains (x ∷ []) y → x ≡ y
  only_in x y c = by_cases (Contains-push_cases [] x y c)
    where
      by_cases : Contains [] y ⊎ (x ≡ y) → x ≡ y
      by_cases (inl h) = absurd (none_in y h)
      by_cases (inr e) = e

  pub in_only : (x : A) → Contains (x ∷ []) x
  in_only x = Contains-push [] x

  pub element_at : (xs : List A) (n : ℕ) (x : A) → slice_get xs n ≡ Some x → Contains xs x
  element_at xs n x e = (n, slice_get_within xs n x e, get_or_from_slice_get xs n x x e)

  pub at_element : (xs : List A) (x : A) → Contains xs x → (n : ℕ) × (slice_get xs n ≡ Some x)
  at_element xs x c = (c.0, slice_get-get_or xs c.0 x c.1 ∙ ap Some c.2)

module _ {A B : Type 0} (f : A → List B) where
  pub flat-more : (xs : List A) (n : ℕ) (x : A) (old new : List B) → slice_get xs n ≡ Some x → old ≡ flat_map f (take n xs) → new ≡ old ++ f x → new ≡ flat_map f (take (n + 1) xs)
  flat-more xs n x old new e so more =
      more ∙ (ap (λ l. l ++ f x) so ∙ (ap (λ l. flat_map f (take n xs) ++ l) (sym (append-nil (f x))) ∙ (sym (flat_map-append f (take n xs) (x ∷ [])) ∙ ap (flat_map f) (sym (take-more xs n x e)))))

  pub flat_in : (xs : List A) (x : A) (y : B) → Contains xs x → Contains (f x) y → Contains (flat_map f xs) y
  flat_in [] x y c d = absurd (none_in x c)
  flat_in (z ∷ zs) x y c d = by_cases (Contains-append_cases (z ∷ []) zs x c) (flat_in zs x y)
    where
      by_cases : Contains (z ∷ []) x ⊎ Contains zs x → (Contains zs x → Contains (f x) y → Contains (flat_map f zs) y) → Contains (f z ++ flat_map f zs) y
      by_cases (inl h) later = Contains-append_left (f z) (flat_map f zs) y (subst (λ (w : A). Contains (f w) y) (sym (only_in z x h)) d)
      by_cases (inr h) later = Contains-append_right (f z) (flat_map f zs) y (later h d)

  pub in_flat : (xs : List A) (y : B) → Contains (flat_map f xs) y → (x : A) × Contains xs x × Contains (f x) y
  in_flat [] y c = absurd (none_in y c)
  in_flat (z ∷ zs) y c = by_cases (Contains-append_cases (f z) (flat_map f zs) y c) (in_flat zs y)
    where
      by_cases : Contains (f z) y ⊎ Contains (flat_map f zs) y → (Contains (flat_map f zs) y → (x : A) × Contains zs x × Contains (f x) y) → (x : A) × Contains (z ∷ zs) x × Contains (f x) y
      by_cases (inl h) later = (z, Contains-append_left (z ∷ []) zs z (in_only z), h)
      by_cases (inr h) later = let found = later h in (found.0, Contains-append_right (z ∷ []) zs found.0 found.1, found.2)
