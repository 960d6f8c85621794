-- What a loop gathers behind what was there.
use Rattle.std.proofs.Common.{◌≡◌, ℕ, ◌+◌, ◌<◌, List, [], ◌∷◌, ◌++◌, length, get_or, take, ap, sym, ◌∙◌, append_assoc, append-nil}
use Rattle.std.specs.Prelude.{flat_map}
use Rattle.std.proofs.lemmas.Grind.{flat_map-append}
use Rattle.std.proofs.lemmas.List.{take_more}

module _ {A B : Type 0} (f : A → List B) (base : List B) (xs : List A) where
  pub gathered : (found new : List B) (i : ℕ) (x : A) → i < length xs → x ≡ get_or xs i x → found ≡ base ++ flat_map f (take i xs) → new ≡ found ++ f x → new ≡ base ++ flat_map f (take (i + 1) xs)
  gathered found new i x lt is so n =
      let taken : flat_map f (take (i + 1) xs) ≡ flat_map f (take i xs) ++ f x =
      ap (flat_map f) (take_more xs i x lt ∙ ap (λ (y : A). take i xs ++ y ∷ []) (sym is)) ∙ (flat_map-append f (take i xs) (x ∷ []) ∙ ap (λ (l : List B). flat_map f (take i xs) ++ l) (append-nil (f x))) in
      n ∙ (ap (λ (l : List B). l ++ f x) so ∙ (append_assoc base (flat_map f (take i xs)) (f x) ∙ ap (λ (l : List B). base ++ l) (sym taken)))
