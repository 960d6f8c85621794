-- Two lists beside each other, one pair a turn.
use Rattle.std.proofs.Common.{◌≡◌, ◌≢◌, ℕ, suc, ◌+◌, ◌<◌, ◌≤◌, ◌↔◌, Bool, true, false, List, [], ◌∷◌, length, get_or, drop, refl, ap, sym, ◌∙◌, subst, arith}
use Rattle.std.proofs.lemmas.List.{drop_more, drop_all}
use Rattle.ecd_core.specs.Lists.{EachWith}

-- no fact, and the test said so
pub refuted : {P : Type 0} → (P → ⊥) → (false ≡ true) ↔ P
refuted h = ((λ (e : false ≡ true). absurd cc), λ p. absurd (h p))

pub holds : {P : Type 0} → P → (true ≡ true) ↔ P
holds p = ((λ _. p), (λ _. refl))

pub held : {P : Type 0} (b : Bool) → b ≡ true → (b ≡ true) ↔ P → P
held b t h = h.0 t

pub failed : {P : Type 0} (b : Bool) → b ≡ false → (b ≡ true) ↔ P → P → ⊥
failed b f h p = let bad : false ≡ true = sym f ∙ h.1 p in absurd cc

pub carried : {b : Bool} {P Q : Type 0} → (P → Q) → (Q → P) → (b ≡ true) ↔ P → (b ≡ true) ↔ Q
carried to from h = ((λ t. to (h.0 t)), (λ q. h.1 (from q)))

module _ {X Y : Type 0} (R : X → Y → Type 0) where
  pub same_length : (xs : List X) (ys : List Y) → EachWith R xs ys → length xs ≡ length ys
  same_length [] [] h = refl
  same_length [] (y ∷ ys) h = absurd h
  same_length (x ∷ xs) [] h = absurd h
  same_length (x ∷ xs) (y ∷ ys) h = ap suc (same_length xs ys h.1)

  module _ (xs : List X) (ys : List Y) (i : ℕ) (x : X) (y : Y) (less : i < length xs) (same : length xs ≡ length ys) (is_x : x ≡ get_or xs i x) (is_y : y ≡ get_or ys i y) (inv : EachWith R xs ys ↔ EachWith R (drop i xs) (drop i ys)) where
    left : drop i xs ≡ x ∷ drop (i + 1) xs
    left = drop_more xs i x less ∙ ap (λ z. z ∷ drop (i + 1) xs) (sym is_x)

    right : drop i ys ≡ y ∷ drop (i + 1) ys
    right = let less_too : i < length ys = omega arith in drop_more ys i y less_too ∙ ap (λ z. z ∷ drop (i + 1) ys) (sym is_y)

    here : EachWith R xs ys ↔ (R x y × EachWith R (drop (i + 1) xs) (drop (i + 1) ys))
    here = subst (λ (l : List Y). EachWith R xs ys ↔ EachWith R (x ∷ drop (i + 1) xs) l) right (subst (λ (l : List X). EachWith R xs ys ↔ EachWith R l (drop i ys)) left inv)

    pub pairs_more : R x y → EachWith R xs ys ↔ EachWith R (drop (i + 1) xs) (drop (i + 1) ys)
    pairs_more r = let h = here in let to = h.0 in let from = h.1 in ((λ e. let both = to e in both.1), (λ rest. from (r, rest)))

    pub pairs_stop : (R x y → ⊥) → (false ≡ true) ↔ EachWith R xs ys
    pairs_stop r = let h = here in let to = h.0 in refuted (λ e. let both = to e in r both.0)

  pub pairs_end : (xs : List X) (ys : List Y) (i : ℕ) → length xs ≤ i → length xs ≡ length ys → EachWith R xs ys ↔ EachWith R (drop i xs) (drop i ys) → (true ≡ true) ↔ EachWith R xs ys
  pairs_end xs ys i h same inv =
      let more : length ys ≤ i = omega arith in
      let e = subst (λ (l : List Y). EachWith R xs ys ↔ EachWith R [] l) (drop_all i ys more) (subst (λ (l : List X). EachWith R xs ys ↔ EachWith R l (drop i ys)) (drop_all i xs h) inv) in
      let from = e.1 in
      holds (from tt)

  pub pairs_unlike : (xs : List X) (ys : List Y) → (length xs ≡ length ys → ⊥) → (false ≡ true) ↔ EachWith R xs ys
  pairs_unlike xs ys h = refuted (λ e. h (same_length xs ys e))

pub along : {b : Bool} {P Q : Type 0} → P ≡ Q → (b ≡ true) ↔ P → (b ≡ true) ↔ Q
along {b} e h = subst (λ (X : Type 0). (b ≡ true) ↔ X) e h
