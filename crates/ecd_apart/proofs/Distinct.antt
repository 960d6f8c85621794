-- Lists of pairs in which none stands twice.
use Rattle.std.proofs.Common.{◌≡◌, suc, ◌≤◌, ◌⊎◌, inl, inr, List, [], ◌∷◌, ◌++◌, length, map, refl, ap, sym, ◌∙◌, subst, arith}
use Rattle.ecd_keyorder.specs.declared.Order.{Order}
use Rattle.ecd_item_laws.specs.declared.item.Pair.{Pair}
use Rattle.ecd_item_laws.specs.Encoding.{key_bytes}
use Rattle.ecd_item_laws.specs.Valid.{Ascend}
use Rattle.ecd_core.specs.Lists.{IsIn}
use Rattle.ecd_core.proofs.Ascending.{not_before_itself, before_all}

-- no pair stands twice
abbrev pub Differ : List Pair → Type 0
Differ [] = Unit {0}
Differ (p ∷ ps) = (IsIn p ps → ⊥) × Differ ps

pub in_left : (p : Pair) (xs ys : List Pair) → IsIn p xs → IsIn p (xs ++ ys)
in_left p [] ys h = absurd h
in_left p (x ∷ xs) ys (inl e) = inl e
in_left p (x ∷ xs) ys (inr h) = inr (in_left p xs ys h)

pub in_right : (p : Pair) (xs ys : List Pair) → IsIn p ys → IsIn p (xs ++ ys)
in_right p [] ys h = h
in_right p (x ∷ xs) ys h = inr (in_right p xs ys h)

pub in_either : (p : Pair) (xs ys : List Pair) → IsIn p (xs ++ ys) → IsIn p xs ⊎ IsIn p ys
in_either p [] ys h = inr h
in_either p (x ∷ xs) ys (inl e) = inl (inl e)
in_either p (x ∷ xs) ys (inr h) = elim (in_either p xs ys h) [ inl a ↦ inl (inr a) | inr b ↦ inr b ]

pub differ_append : (xs ys : List Pair) → Differ xs → Differ ys → ((p : Pair) → IsIn p xs → IsIn p ys → ⊥) → Differ (xs ++ ys)
differ_append [] ys d e f = e
differ_append (x ∷ xs) ys d e f = (λ h. from (in_either x xs ys h), differ_append xs ys d.1 e (λ p a b. f p (inr a) b))
  where
    from : IsIn x xs ⊎ IsIn x ys → ⊥
    from (inl h) = d.0 h
    from (inr h) = f x (inl refl) h

pub ascending_differ : (order : Order) (ps : List Pair) → Ascend order (map key_bytes ps) → Differ ps
ascending_differ order [] a = tt
ascending_differ order (p ∷ ps) a = (λ h. not_before_itself order (key_bytes p) (before_all order p ps p a h), ascending_differ order ps a.1)

-- ---- what lies inside a list is no longer

-- the list without the pair that stands at this place
without : (p : Pair) (ys : List Pair) → IsIn p ys → List Pair
without p [] h = []
without p (y ∷ ys) (inl e) = ys
without p (y ∷ ys) (inr h) = y ∷ without p ys h

without_long : (p : Pair) (ys : List Pair) (h : IsIn p ys) → length ys ≡ suc (length (without p ys h))
unfolding without
without_long p [] h = absurd h
without_long p (y ∷ ys) (inl e) = refl
without_long p (y ∷ ys) (inr h) = ap suc (without_long p ys h)

in_without : (p q : Pair) (ys : List Pair) (h : IsIn p ys) → IsIn q ys → (p ≡ q) ⊎ IsIn q (without p ys h)
unfolding without
in_without p q [] h i = absurd h
in_without p q (y ∷ ys) (inl e) (inl f) = inl (sym e ∙ f)
in_without p q (y ∷ ys) (inl e) (inr i) = inr i
in_without p q (y ∷ ys) (inr h) (inl f) = inr (inl f)
in_without p q (y ∷ ys) (inr h) (inr i) = elim (in_without p q ys h i) [ inl e ↦ inl e | inr j ↦ inr (inr j) ]

pub no_longer : (xs ys : List Pair) → Differ xs → ((p : Pair) → IsIn p xs → IsIn p ys) → length xs ≤ length ys
no_longer [] ys d f = omega arith
no_longer (x ∷ xs) ys d f =
    let h = f x (inl refl) in
    let a = no_longer xs (without x ys h) d.1 (λ p i. from p i (in_without x p ys h (f p (inr i)))) in
    omega (arith, a, without_long x ys h)
  where
    from : (p : Pair) → IsIn p xs → (x ≡ p) ⊎ IsIn p (without x ys (f x (inl refl))) → IsIn p (without x ys (f x (inl refl)))
    from p i (inl e) = absurd (d.0 (subst (λ (y : Pair). IsIn y xs) (sym e) i))
    from p i (inr j) = j
