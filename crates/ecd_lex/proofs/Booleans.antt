-- Tests and what they tell.
use Rattle.std.proofs.Common.{◌≡◌, ◌≢◌, ◌⊎◌, ℕ, ◌+◌, Bool, true, false, List, ◌∷◌, take, drop, refl, inl, inr, eqb, one-add}
use Rattle.std.proofs.lemmas.Bool.Decides.{eqb_tells}

pub tests : (b : Bool) → (b ≡ true) ⊎ (b ≡ false)
tests true = inl refl
tests false = inr refl

pub take_one : {A : Type 0} (n : ℕ) (c : A) (text : List A) → take (1 + n) (c ∷ text) ≡ c ∷ take n text
take_one n c text = rw one-add refl

pub drop_one : {A : Type 0} (n : ℕ) (c : A) (text : List A) → drop (1 + n) (c ∷ text) ≡ drop n text
drop_one n c text = rw one-add refl

pub is_same : (a b : ℕ) → eqb a b ≡ true → a ≡ b
is_same a b e = elim (eqb_tells a b) [ inl h ↦ h.1 | inr h ↦ cc ]

pub is_other : (a b : ℕ) → eqb a b ≡ false → a ≢ b
is_other a b e = elim (eqb_tells a b) [ inl h ↦ cc | inr h ↦ h.1 ]

pub same_is : (a b : ℕ) → a ≡ b → eqb a b ≡ true
same_is a b e = elim (eqb_tells a b) [ inl h ↦ h.0 | inr h ↦ absurd (h.1 e) ]

pub other_is : (a b : ℕ) → a ≢ b → eqb a b ≡ false
other_is a b e = elim (eqb_tells a b) [ inl h ↦ absurd (e h.1) | inr h ↦ h.0 ]
