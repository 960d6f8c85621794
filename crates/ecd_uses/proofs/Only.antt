-- The only element of a list, and the cases of an entry.
use Rattle.std.proofs.Common.{◌≡◌, ◌≢◌, true, false, List, [], ◌∷◌, length, map, Option, Some, None, Result, IfOk, refl, ap, subst}
use Rattle.std.specs.Prelude.{is_some}
use Rattle.ecd_syntax.specs.declared.tree.Key.{Key, Missing, Arrow, Word}
use Rattle.ecd_syntax.specs.declared.tree.Key.{Lit as AValueKey}
use Rattle.ecd_syntax.specs.declared.tree.Occur.{Occur}
use Rattle.ecd_uses.specs.declared.site.Lead.{Lead}
use Rattle.ecd_uses.specs.declared.site.Lead.TheVariants as leads
use Rattle.ecd_uses.specs.Leads.{only_or, entry_lead}
use Rattle.ecd_uses.specs.Sites.{is_keyed}

pub if_ok : {E : Type 0} (r : Result Lead E) (x y : Lead) → x ≡ y → IfOk r (λ l. l ≡ x) → IfOk r (λ l. l ≡ y)
if_ok r x y e h = subst (λ (z : Lead). IfOk r (λ l. l ≡ z)) e h

pub only_one : {A B : Type 0} (f : A → B) (other : B) (xs : List A) (x : A) → xs ≡ x ∷ [] → only_or other (map f xs) ≡ f x
only_one f other xs x e = ap (λ ys. only_or other (map f ys)) e

pub only_none : {A B : Type 0} (f : A → B) (other : B) (xs : List A) → length xs ≢ 1 → only_or other (map f xs) ≡ other
only_none f other [] h = refl
only_none f other (y ∷ []) h = absurd (h refl)
only_none f other (y ∷ z ∷ rest) h = refl

-- ---- entries

pub occurs : (occur : Option Occur) (key : Key) (body : Lead) → true ≡ is_some occur → leads.Group ≡ entry_lead occur key body
occurs (Some o) key body h = refl
occurs None key body h = cc

pub keyed : (occur : Option Occur) (key : Key) (body : Lead) → true ≡ is_keyed key → leads.Group ≡ entry_lead occur key body
keyed (Some o) key body h = refl
keyed None Missing body h = cc
keyed None (Arrow of cut) body h = refl
keyed None (Word name) body h = refl
keyed None (AValueKey at value) body h = refl

pub bare : (occur : Option Occur) (key : Key) (body : Lead) → false ≡ is_some occur → false ≡ is_keyed key → body ≡ entry_lead occur key body
bare (Some o) key body h k = cc
bare None Missing body h k = refl
bare None (Arrow of cut) body h k = cc
bare None (Word name) body h k = cc
bare None (AValueKey at value) body h k = cc
