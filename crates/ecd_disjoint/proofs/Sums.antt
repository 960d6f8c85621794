-- Loops that add up, or keep the least or the greatest.
use Rattle.std.proofs.Common.{◌≡◌, ℕ, ◌+◌, ◌<◌, ◌≤◌, ◌^◌, ◌-◌, List, [], ◌∷◌, length, get_or, drop, ap, sym, ◌∙◌, arith}
use Rattle.std.specs.Prelude.{min, max}
use Rattle.std.proofs.lemmas.List.{drop_all}
use Rattle.ecd_apart.specs.Counts.{top, cap}
use Rattle.ecd_disjoint.specs.Counts.{sum_of, least_of, greatest_of}
use Rattle.ecd_disjoint.proofs.Loops.{next}

abbrev pub SumSo : {A : Type 0} → (A → ℕ) → List A → ℕ → ℕ → Type 0
SumSo f xs i n = (cap (n + sum_of f (drop i xs)) ≡ sum_of f xs) × (n ≤ top)

abbrev pub LeastSo : {A : Type 0} → (A → ℕ) → List A → ℕ → ℕ → Type 0
LeastSo f xs i n = (min n (least_of f (drop i xs)) ≡ least_of f xs) × (n ≤ top)

abbrev pub GreatestSo : {A : Type 0} → (A → ℕ) → List A → ℕ → ℕ → Type 0
GreatestSo f xs i n = max n (greatest_of f (drop i xs)) ≡ greatest_of f xs

capped : (n x r : ℕ) → cap (cap (n + x) + r) ≡ cap (n + cap (x + r))
unfolding cap
capped n x r = omega arith

pub cap_is : (n : ℕ) → min n (2 ^ 64 - 1) ≡ cap n
unfolding cap
cap_is n = omega arith

cap_small : (n : ℕ) → cap n ≤ top
unfolding cap
cap_small n = omega arith

cap_zero : (n : ℕ) → n ≤ top → cap (n + 0) ≡ n
unfolding cap
cap_zero n h = omega arith

module _ {A : Type 0} (f : A → ℕ) where
  pub sum_small : (xs : List A) → cap (0 + sum_of f xs) ≡ sum_of f xs
  unfolding cap
  sum_small [] = omega arith
  sum_small (x ∷ xs) = omega arith

  pub sum_start : (xs : List A) → SumSo f xs 0 0
  sum_start xs = (sum_small xs, omega arith)

  pub sum_more : (xs : List A) (i : ℕ) (x : A) (n y r : ℕ) → i < length xs → x ≡ get_or xs i x → y ≡ f x → r ≡ min (n + y) (2 ^ 64 - 1) → SumSo f xs i n → SumSo f xs (i + 1) r
  sum_more xs i x n y r h e g s inv =
      let here : r ≡ cap (n + f x) = s ∙ (cap_is (n + y) ∙ ap (λ (m : ℕ). cap (n + m)) g) in (
        ap (λ (m : ℕ). cap (m + sum_of f (drop (i + 1) xs))) here
            ∙ (capped n (f x) (sum_of f (drop (i + 1) xs)) ∙ (ap (λ (l : List A). cap (n + sum_of f l)) (sym (next xs i x h e)) ∙ inv.0)),
        omega (arith, here, cap_small (n + f x)),
      )

  pub sum_end : (xs : List A) (i n : ℕ) → length xs ≤ i → SumSo f xs i n → n ≡ sum_of f xs
  sum_end xs i n h inv = sym (cap_zero n inv.1) ∙ (ap (λ (l : List A). cap (n + sum_of f l)) (sym (drop_all i xs h)) ∙ inv.0)

  least_small : (xs : List A) → least_of f xs ≤ top
  least_small [] = omega arith
  least_small (x ∷ xs) = let h = least_small xs in omega (arith, h)

  pub least_start : (xs : List A) → LeastSo f xs 0 top
  least_start xs = let h = least_small xs in (omega (arith, h), omega arith)

  pub least_more : (xs : List A) (i : ℕ) (x : A) (n y r : ℕ) → i < length xs → x ≡ get_or xs i x → y ≡ f x → r ≡ min n y → LeastSo f xs i n → LeastSo f xs (i + 1) r
  least_more xs i x n y r h e g s inv = let here = ap (λ (l : List A). least_of f l) (next xs i x h e) in let was = inv.0 in let small = inv.1 in (omega (arith, here, was, s, g), omega (arith, small, s))

  pub least_end : (xs : List A) (i n : ℕ) → length xs ≤ i → LeastSo f xs i n → n ≡ least_of f xs
  least_end xs i n h inv = let here = ap (λ (l : List A). least_of f l) (drop_all i xs h) in let was = inv.0 in let small = inv.1 in omega (arith, here, was, small)

  pub greatest_start : (xs : List A) → GreatestSo f xs 0 0
  greatest_start xs = omega arith

  pub greatest_more : (xs : List A) (i : ℕ) (x : A) (n y r : ℕ) → i < length xs → x ≡ get_or xs i x → y ≡ f x → r ≡ max n y → GreatestSo f xs i n → GreatestSo f xs (i + 1) r
  greatest_more xs i x n y r h e g s inv = let here = ap (λ (l : List A). greatest_of f l) (next xs i x h e) in omega (arith, here, inv, s, g)

  pub greatest_end : (xs : List A) (i n : ℕ) → length xs ≤ i → GreatestSo f xs i n → n ≡ greatest_of f xs
  greatest_end xs i n h inv = let here = ap (λ (l : List A). greatest_of f l) (drop_all i xs h) in omega (arith, here, inv)
