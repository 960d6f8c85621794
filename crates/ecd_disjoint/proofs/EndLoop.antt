-- The loop over the ends of two arrays.
use Rattle.std.proofs.Common.{◌≡◌, ℕ, ◌+◌, ◌<◌, ◌≤◌, ◌↔◌, ◌⊎◌, inl, inr, true, false, List, [], ◌∷◌, length, get_or, drop, refl, ap, subst, arith}
use Rattle.std.proofs.lemmas.List.{drop_all, length-reverse}
use Rattle.ecd_core.specs.declared.shape.Kind.{Kind}
use Rattle.ecd_core.specs.declared.shape.Part.{Part, One', Opt', Many', Alt'}
use Rattle.ecd_apart.specs.Apart.{is_one}
use Rattle.ecd_disjoint.specs.declared.ends.End.{End}
use Rattle.ecd_disjoint.specs.declared.ends.End.TheVariants.{First, Last}
use Rattle.ecd_disjoint.specs.Ends.{facing, singles, SomeApart, EndsApart, SinglesApart}
use Rattle.ecd_disjoint.proofs.Loops.{refuted, next}
use Rattle.ecd_disjoint.proofs.Sizes.{total, part_size, total-reverse}

pub facing_long : (end : End) (parts : List Part) → length (facing end parts) ≡ length parts
facing_long First parts = refl
facing_long Last parts = length-reverse parts

pub facing_total : (end : End) (parts : List Part) → total part_size (facing end parts) ≡ total part_size parts
facing_total First parts = refl
facing_total Last parts = total-reverse part_size parts

none_apart : (kinds : List Kind) → SomeApart kinds [] → ⊥
none_apart [] a = a
none_apart (kind ∷ kinds) a = a

none_left : (xs : List Part) (i : ℕ) → length xs ≤ i → singles (drop i xs) ≡ []
none_left xs i h = ap singles (drop_all i xs h)

pub ends_over : (end : End) (parts others : List Part) (i : ℕ) → (length parts ≤ i) ⊎ (length others ≤ i) → EndsApart end parts others ↔ SomeApart (singles (drop i (facing end parts))) (singles (drop i (facing end others)))
    → (false ≡ true) ↔ EndsApart end parts others
ends_over end parts others i (inl h) inv =
    let over = none_left (facing end parts) i (omega (arith, h, facing_long end parts)) in
    refuted (λ e. subst (λ (l : List Kind). SomeApart l (singles (drop i (facing end others)))) over (inv.0 e))
ends_over end parts others i (inr h) inv =
    let over = none_left (facing end others) i (omega (arith, h, facing_long end others)) in
    refuted (λ e. none_apart (singles (drop i (facing end parts))) (subst (SomeApart (singles (drop i (facing end parts)))) over (inv.0 e)))

abbrev pub Onward : List Part → List Part → ℕ → Type 0
Onward xs ys i = SomeApart (singles (drop i xs)) (singles (drop i ys))

one_step : (x y : Part) (xs ys : List Part) → is_one x ≡ true → is_one y ≡ true → SomeApart (singles (x ∷ xs)) (singles (y ∷ ys)) ≡ (SinglesApart x y ⊎ SomeApart (singles xs) (singles ys))
one_step (One' at s) (One' there t) xs ys e f = refl
one_step (One' at s) (Opt' there z body) xs ys e f = absurd cc
one_step (One' at s) (Many' there lo hi z body) xs ys e f = absurd cc
one_step (One' at s) (Alt' there z ways) xs ys e f = absurd cc
one_step (Opt' at z body) y xs ys e f = absurd cc
one_step (Many' at lo hi z body) y xs ys e f = absurd cc
one_step (Alt' at z ways) y xs ys e f = absurd cc

not_one : (x : Part) (xs : List Part) (kinds : List Kind) → is_one x ≡ false → SomeApart (singles (x ∷ xs)) kinds → ⊥
not_one (One' at s) xs kinds e a = absurd cc
not_one (Opt' at z body) xs kinds e a = a
not_one (Many' at lo hi z body) xs kinds e a = a
not_one (Alt' at z ways) xs kinds e a = a

not_other : (kinds : List Kind) (y : Part) (ys : List Part) → is_one y ≡ false → SomeApart kinds (singles (y ∷ ys)) → ⊥
not_other kinds (One' at s) ys e a = absurd cc
not_other kinds (Opt' at z body) ys e a = none_apart kinds a
not_other kinds (Many' at lo hi z body) ys e a = none_apart kinds a
not_other kinds (Alt' at z ways) ys e a = none_apart kinds a

module _ (E : Type 0) (xs ys : List Part) (i : ℕ) (x y : Part) (left : i < length xs) (right : i < length ys) (is_x : x ≡ get_or xs i x) (is_y : y ≡ get_or ys i y) (inv : E ↔ Onward xs ys i) where
  here : E ↔ SomeApart (singles (x ∷ drop (i + 1) xs)) (singles (y ∷ drop (i + 1) ys))
  here =
      subst (λ (l : List Part). E ↔ SomeApart (singles (x ∷ drop (i + 1) xs)) (singles l)) (next ys i y right is_y) (subst (λ (l : List Part). E ↔ SomeApart (singles l) (singles (drop i ys))) (next xs i x left is_x) inv)

  pub no_single : is_one x ≡ false → (false ≡ true) ↔ E
  no_single e = let h = here in refuted (λ q. not_one x (drop (i + 1) xs) (singles (y ∷ drop (i + 1) ys)) e (h.0 q))

  pub no_other : is_one y ≡ false → (false ≡ true) ↔ E
  no_other e = let h = here in refuted (λ q. not_other (singles (x ∷ drop (i + 1) xs)) y (drop (i + 1) ys) e (h.0 q))

  both : is_one x ≡ true → is_one y ≡ true → E ↔ (SinglesApart x y ⊎ Onward xs ys (i + 1))
  both e f = subst (λ (P : Type 0). E ↔ P) (one_step x y (drop (i + 1) xs) (drop (i + 1) ys) e f) here

  pub apart_here : is_one x ≡ true → is_one y ≡ true → SinglesApart x y → E
  apart_here e f a = let h = both e f in h.1 (inl a)

  pub onward : is_one x ≡ true → is_one y ≡ true → (SinglesApart x y → ⊥) → E ↔ Onward xs ys (i + 1)
  onward e f n = let h = both e f in ((λ q. elim (h.0 q) [ inl a ↦ absurd (n a) | inr b ↦ b ]), (λ b. h.1 (inr b)))
