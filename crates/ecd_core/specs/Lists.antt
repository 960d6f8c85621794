-- Words for lists.
use Rattle.std.specs.Prelude.{◌≡◌, ◌⊎◌, List, [], ◌∷◌}

-- Each element is so.
abbrev pub Each {ℓ} : {A : Type ℓ} → (A → Type 0) → List A → Type 0
Each P [] = Unit {0}
Each P (x ∷ xs) = P x × Each P xs

-- Some element is so.
abbrev pub HasSome {ℓ} : {A : Type ℓ} → (A → Type 0) → List A → Type 0
HasSome P [] = ⊥
HasSome P (x ∷ xs) = P x ⊎ HasSome P xs

-- The two lists are equally long, and so it is of their elements at each place.
abbrev pub EachWith {ℓ} : {A : Type ℓ} {B : Type 0} → (A → B → Type 0) → List A → List B → Type 0
EachWith R [] [] = Unit {0}
EachWith R [] (y ∷ ys) = ⊥
EachWith R (x ∷ xs) [] = ⊥
EachWith R (x ∷ xs) (y ∷ ys) = R x y × EachWith R xs ys

-- It is an element.
abbrev pub IsIn : {A : Type 0} → A → List A → Type 0
IsIn x xs = HasSome (λ y. y ≡ x) xs
