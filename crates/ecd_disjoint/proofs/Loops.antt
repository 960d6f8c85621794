-- Loops over a list that ask the same of each element.
use Rattle.std.proofs.Common.{◌≡◌, ℕ, ◌+◌, ◌<◌, ◌≤◌, ◌↔◌, ◌⊎◌, inl, inr, Bool, true, false, List, ◌∷◌, length, get_or, drop, refl, ap, sym, ◌∙◌, subst}
use Rattle.std.proofs.lemmas.List.{drop_more, drop_all}
use Rattle.ecd_core.specs.Lists.{Each, HasSome}

-- ---- what a test says

pub refuted : {P : Type 0} → (P → ⊥) → (false ≡ true) ↔ P
refuted h = ((λ (e : false ≡ true). absurd cc), λ p. absurd (h p))

pub holds : {P : Type 0} → P → (true ≡ true) ↔ P
holds p = ((λ _. p), (λ _. refl))

pub held : {P : Type 0} (b : Bool) → b ≡ true → (b ≡ true) ↔ P → P
held b t h = h.0 t

pub failed : {P : Type 0} (b : Bool) → b ≡ false → (b ≡ true) ↔ P → P → ⊥
failed b f h p = let bad : false ≡ true = sym f ∙ h.1 p in absurd cc

pub carried : {b : Bool} {P Q : Type 0} → (P → Q) → (Q → P) → (b ≡ true) ↔ P → (b ≡ true) ↔ Q
carried to from h = ((λ t. to (h.0 t)), (λ q. h.1 (from q)))

pub along : {b : Bool} {P Q : Type 0} → P ≡ Q → (b ≡ true) ↔ P → (b ≡ true) ↔ Q
along {b} e h = subst (λ (X : Type 0). (b ≡ true) ↔ X) e h

-- ---- elements

pub next : {X : Type 0} (xs : List X) (i : ℕ) (x : X) → i < length xs → x ≡ get_or xs i x → drop i xs ≡ x ∷ drop (i + 1) xs
next xs i x h e = drop_more xs i x h ∙ ap (λ y. y ∷ drop (i + 1) xs) (sym e)

module _ {A : Type 0} (P : A → Type 0) (xs : List A) (i : ℕ) (x : A) (less : i < length xs) (is : x ≡ get_or xs i x) where
  each_here : Each P xs ↔ Each P (drop i xs) → Each P xs ↔ (P x × Each P (drop (i + 1) xs))
  each_here inv = subst (λ (l : List A). Each P xs ↔ Each P l) (next xs i x less is) inv

  pub each_more : (b : Bool) → b ≡ true → (b ≡ true) ↔ P x → Each P xs ↔ Each P (drop i xs) → Each P xs ↔ Each P (drop (i + 1) xs)
  each_more b t h inv = let e = each_here inv in ((λ all. let both = e.0 all in both.1), (λ rest. e.1 (h.0 t, rest)))

  pub each_stop : (b : Bool) → b ≡ false → (b ≡ true) ↔ P x → Each P xs ↔ Each P (drop i xs) → (false ≡ true) ↔ Each P xs
  each_stop b t h inv = let e = each_here inv in refuted (λ all. let both = e.0 all in failed b t h both.0)

  some_here : HasSome P xs ↔ HasSome P (drop i xs) → HasSome P xs ↔ (P x ⊎ HasSome P (drop (i + 1) xs))
  some_here inv = subst (λ (l : List A). HasSome P xs ↔ HasSome P l) (next xs i x less is) inv

  pub some_past : (P x → ⊥) → HasSome P xs ↔ HasSome P (drop i xs) → HasSome P xs ↔ HasSome P (drop (i + 1) xs)
  some_past n inv = let e = some_here inv in ((λ some. elim (e.0 some) [ inl p ↦ absurd (n p) | inr q ↦ q ]), (λ rest. e.1 (inr rest)))

  pub some_more : (b : Bool) → b ≡ false → (b ≡ true) ↔ P x → HasSome P xs ↔ HasSome P (drop i xs) → HasSome P xs ↔ HasSome P (drop (i + 1) xs)
  some_more b t h inv = some_past (failed b t h) inv

  pub some_found : P x → HasSome P xs ↔ HasSome P (drop i xs) → (true ≡ true) ↔ HasSome P xs
  some_found p inv = let e = some_here inv in holds (e.1 (inl p))

  pub some_stop : (b : Bool) → b ≡ true → (b ≡ true) ↔ P x → HasSome P xs ↔ HasSome P (drop i xs) → (true ≡ true) ↔ HasSome P xs
  some_stop b t h inv = some_found (h.0 t) inv

module _ {A : Type 0} (P : A → Type 0) (xs : List A) (i : ℕ) (done : length xs ≤ i) where
  pub each_end : Each P xs ↔ Each P (drop i xs) → (true ≡ true) ↔ Each P xs
  each_end inv = let e = subst (λ (l : List A). Each P xs ↔ Each P l) (drop_all i xs done) inv in holds (e.1 tt)

  pub some_end : HasSome P xs ↔ HasSome P (drop i xs) → (false ≡ true) ↔ HasSome P xs
  some_end inv = let e = subst (λ (l : List A). HasSome P xs ↔ HasSome P l) (drop_all i xs done) inv in refuted (λ some. e.0 some)
