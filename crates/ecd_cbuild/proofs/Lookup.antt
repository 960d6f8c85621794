-- Items by their numbers and names.
use Rattle.std.proofs.Common.{◌≡◌, ℕ, zero, suc, ◌+◌, ◌<◌, List, [], ◌∷◌, ◌++◌, length, get_or, take, ap, sym, ◌∙◌, subst, arith, true, false}
use Rattle.std.specs.Prelude.{Some, slice_get}
use Rattle.std.proofs.lemmas.List.{take_more}
use Rattle.std.proofs.lemmas.Slice.Eq.{bytes_eq-Decides}
use Rattle.ecd_cast.specs.declared.tree.CItem.{CItem}
use Rattle.ecd_cast.specs.declared.tree.CItem.TheVariants.{Struct as AStructDecl, Function as AFunction}
use Rattle.ecd_cast.specs.Memory.{Name}
use Rattle.ecd_cast.specs.Kept.{IsNew}
use Rattle.ecd_cbuild.specs.Lookup.{IsFunctionAt, is_function_of}

pub get-at : {X : Type 0} (xs : List X) (i : ℕ) (x : X) → i < length xs → x ≡ get_or xs i x → slice_get xs i ≡ Some x
get-at [] i x h e = absurd (omega arith)
get-at (y ∷ xs) zero x h e = ap Some (sym e)
get-at (y ∷ xs) (suc i) x h e = get-at xs i x (omega arith) e

pub named_at : (items : List CItem) (name : Name) (at : ℕ) (item : CItem) → at < length items → item ≡ get_or items at item → is_function_of item name ≡ true → IsFunctionAt items name at
named_at items name at (AStructDecl s) h e k = absurd cc
named_at items name at (AFunction f) h e k = record { function = f; stands = get-at items at (AFunction f) h e; is_named = (bytes_eq-Decides f.name name).0 k }

new-append : (name : Name) (items : List CItem) (item : CItem) → IsNew name items → is_function_of item name ≡ false → IsNew name (items ++ item ∷ [])
new-append name [] (AStructDecl s) h k = tt
new-append name [] (AFunction f) h k = (k, tt)
new-append name (AStructDecl s ∷ is) item h k = new-append name is item h k
new-append name (AFunction f ∷ is) item h k = (h.0, new-append name is item h.1 k)

pub new-more : (name : Name) (items : List CItem) (i : ℕ) (item : CItem) → i < length items → item ≡ get_or items i item → IsNew name (take i items) → is_function_of item name ≡ false → IsNew name (take (i + 1) items)
new-more name items i item h e k l =
    subst (λ (is : List CItem). IsNew name is) (ap (λ x. take i items ++ x ∷ []) e ∙ sym (take_more items i item h)) (new-append name (take i items) item k l)
