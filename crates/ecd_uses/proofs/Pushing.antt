-- Sites behind sites.
use Rattle.std.proofs.Common.{◌≡◌, ℕ, zero, suc, ◌+◌, ◌<◌, ◌≤◌, Bool, true, false, ◌||◌, List, [], ◌∷◌, ◌++◌, length, get_or, take, Result, OnOk, refl, ap, sym, ◌∙◌, subst, append_assoc, append-nil, arith}
use Rattle.std.specs.Prelude.{flat_map}
use Rattle.std.proofs.lemmas.Grind.{flat_map-append}
use Rattle.std.proofs.lemmas.List.{take_more}
use Rattle.ecd_uses.specs.declared.site.Site.{Site}

abbrev pub Sites : Type 0
Sites = List Site

pub none : (base none : Sites) → none ≡ [] → base ≡ base ++ none
none base xs e = sym (append-nil base) ∙ ap (λ (x : Sites). base ++ x) (sym e)

module _ {E : Type 0} (r : Result (Unit {0}) E) (new base : Sites) where
  pub same : (x y : Sites) → x ≡ y → OnOk r (new ≡ base ++ x) → OnOk r (new ≡ base ++ y)
  same x y e h = subst (λ (z : Sites). OnOk r (new ≡ base ++ z)) e h

  pub behind : (mid x y whole : Sites) → mid ≡ base ++ x → x ++ y ≡ whole → OnOk r (new ≡ mid ++ y) → OnOk r (new ≡ base ++ whole)
  behind mid x y whole m e h = subst (λ (z : Sites). OnOk r (new ≡ z)) (ap (λ (w : Sites). w ++ y) m ∙ (append_assoc base x y ∙ ap (λ (w : Sites). base ++ w) e)) h

-- ---- loops

module _ {A : Type 0} (f : A → Sites) (base : Sites) (xs : List A) where
  pub begin : base ≡ base ++ flat_map f (take 0 xs)
  begin = sym (append-nil base)

  pub grow : (found new : Sites) (i : ℕ) (x : A) → i < length xs → x ≡ get_or xs i x → found ≡ base ++ flat_map f (take i xs) → new ≡ found ++ f x → new ≡ base ++ flat_map f (take (i + 1) xs)
  grow found new i x h e so n =
      let taken : flat_map f (take (i + 1) xs) ≡ flat_map f (take i xs) ++ f x =
      ap (flat_map f) (take_more xs i x h) ∙ (flat_map-append f (take i xs) (get_or xs i x ∷ []) ∙ (ap (λ (w : Sites). flat_map f (take i xs) ++ w) (append-nil (f (get_or xs i x))) ∙ ap (λ y. flat_map f (take i xs) ++ f y) (sym e))) in
      n ∙ (ap (λ (w : Sites). w ++ f x) so ∙ (append_assoc base (flat_map f (take i xs)) (f x) ∙ ap (λ (w : Sites). base ++ w) (sym taken)))

pub take_all : {A : Type 0} (xs : List A) (n : ℕ) → length xs ≤ n → take n xs ≡ xs
take_all [] zero h = refl
take_all [] (suc n) h = refl
take_all (x ∷ xs) zero h = absurd (omega arith)
take_all (x ∷ xs) (suc n) h = ap (λ l. x ∷ l) (take_all xs n (omega arith))

module _ {A : Type 0} (f : A → Sites) (base : Sites) where
  pub finish : (xs : List A) (found whole : Sites) (i : ℕ) → length xs ≤ i → flat_map f xs ≡ whole → found ≡ base ++ flat_map f (take i xs) → found ≡ base ++ whole
  finish xs found whole i h e so = so ∙ ap (λ (w : Sites). base ++ w) (ap (flat_map f) (take_all xs i h) ∙ e)

-- ---- either

pub either_first : (a b x : Bool) → a ≡ true → x ≡ true → x ≡ (a || b)
either_first a b x h e = e ∙ sym (ap (λ c. c || b) h)

pub either_second : (a b x y : Bool) → a ≡ false → x ≡ y → y ≡ b → x ≡ (a || b)
either_second a b x y h e k = e ∙ (k ∙ sym (ap (λ c. c || b) h))
