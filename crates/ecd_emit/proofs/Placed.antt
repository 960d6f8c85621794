-- Functions behind other items: each means what it is to mean, and has a name of its own.
use Rattle.std.proofs.Common.{◌≡◌, ◌+◌, List, [], ◌∷◌, ◌++◌, length, refl, ap, sym, subst, ◌∙◌, true, append_assoc, append-nil}
use Rattle.std.specs.Prelude.{bytes_eq, Some}
use Rattle.std.proofs.lemmas.Slice.Eq.{bytes_eq-Decides}
use Rattle.ecd_cast.specs.declared.tree.Function.{Function}
use Rattle.ecd_cast.specs.declared.tree.CItem.{CItem}
use Rattle.ecd_cast.specs.declared.tree.CItem.TheVariants.{Struct as AStruct, Function as AFunction}
use Rattle.ecd_cast.specs.Memory.{Name}
use Rattle.ecd_cast.specs.Kept.{IsNew}
use Rattle.ecd_cast.specs.Meaning.{calls_of, called, with_item}
use Rattle.ecd_cast.specs.Validity.{IsValidAfter, functions_of, function_named}
use Rattle.ecd_cast.specs.Spelling.{IsSpelledItem, AreSpelledItems}
use Rattle.ecd_cbuild.specs.Built.{AreValidAfter}
use Rattle.ecd_calculus.proofs.Calculus.{calls_append}
use Rattle.ecd_emit.specs.Windows.{Callee}
use Rattle.ecd_emit.specs.Among.{IsAmong}
use Rattle.ecd_emit.proofs.Kept.{callee_kept}
use Rattle.ecd_emit.specs.Among.{IsFree}

-- ---- a function that was put last

same_name : (g : Name) → bytes_eq g g ≡ true
same_name g = (bytes_eq-Decides g g).1 refl

pub last_call : (items : List CItem) (f : Function) → called (calls_of items) (0 + length items) f ≡ calls_of (items ++ AFunction f ∷ []) f.name
last_call items f = λ i vs m. last_is vs m i
  where
    last_is : (vs : _) (m : _) → called (calls_of items) (0 + length items) f vs m ≡ calls_of (items ++ AFunction f ∷ []) f.name vs m
    last_is vs m = rw (calls_append, with_item, same_name f.name) refl

-- its meaning, behind old items and some of the functions
pub placed_last : (P : Callee → Type 0) (old front : List CItem) (f : Function) → P (called (calls_of (old ++ front)) (0 + length (old ++ front)) f) → P (calls_of (old ++ (front ++ AFunction f ∷ [])) f.name)
placed_last P old front f h =
    subst (λ (items : List CItem). P (calls_of items f.name)) (append_assoc old front (AFunction f ∷ [])) (subst P (last_call (old ++ front) f) h)

-- and behind more of them
pub kept : (P : Callee → Type 0) (old front back : List CItem) (g : Name) → IsNew g back → P (calls_of (old ++ front) g) → P (calls_of (old ++ (front ++ back)) g)
kept P old front back g new h = subst (λ (items : List CItem). P (calls_of items g)) (append_assoc old front back) (callee_kept P (old ++ front) back g new h)

-- ---- the names behind old items that have none of them

pub free_of : (items : List CItem) (g : Name) → IsNew g items → IsFree g items
free_of [] g new = refl
free_of (AStruct s ∷ is) g new = free_of is g new
free_of (AFunction f ∷ is) g new = rw new.0 (free_of is g new.1)

pub new_behind : (old front : List CItem) (g : Name) → IsNew g old → IsNew g front → IsNew g (old ++ front)
new_behind [] front g h k = k
new_behind (AStruct s ∷ is) front g h k = new_behind is front g h k
new_behind (AFunction f ∷ is) front g h k = (h.0, new_behind is front g h.1 k)

pub named_behind : (old front : List CItem) (g : Name) → IsNew g old → function_named (functions_of (old ++ front)) g ≡ function_named (functions_of front) g
named_behind [] front g new = refl
named_behind (AStruct s ∷ is) front g new = named_behind is front g new
named_behind (AFunction f ∷ is) front g new = rw new.0 (named_behind is front g new.1)

pub free_behind : (old front : List CItem) (g : Name) → IsNew g old → IsNew g front → IsFree g (old ++ front)
free_behind old front g h k = free_of (old ++ front) g (new_behind old front g h k)

pub among : (old front : List CItem) (f : Function) (g : Name) → f.name ≡ g → IsNew g old → function_named (functions_of front) g ≡ Some f → IsAmong f (old ++ front)
among old front f g e h k = ap (λ (x : Name). function_named (functions_of (old ++ front)) x) e ∙ (named_behind old front g h ∙ k)

-- ---- one item

pub valid_by : (before items : List CItem) (f g : Function) → before ≡ items → g ≡ f → IsValidAfter items (AFunction f) → IsValidAfter before (AFunction g)
valid_by before items f g e h v = subst (λ (l : List CItem). IsValidAfter l (AFunction g)) (sym e) (subst (λ (x : Function). IsValidAfter items (AFunction x)) (sym h) v)

pub spelled_by : (f g : Function) → g ≡ f → IsSpelledItem (AFunction f) → IsSpelledItem (AFunction g)
spelled_by f g h s = subst (λ (x : Function). IsSpelledItem (AFunction x)) (sym h) s

-- ---- the items of a list

-- each of the items is valid behind the old ones, those in front and the ones before it
abbrev pub AreValidBehind : (old front items : List CItem) → Type 0
AreValidBehind old front [] = Unit {0}
AreValidBehind old front (i ∷ is) = IsValidAfter (old ++ front) i × AreValidBehind old (front ++ i ∷ []) is

valid_behind : (old front items : List CItem) → AreValidBehind old front items → AreValidAfter (old ++ front) items
valid_behind old front [] h = tt
valid_behind old front (i ∷ is) h = (h.0, subst (λ (l : List CItem). AreValidAfter l is) (sym (append_assoc old front (i ∷ []))) (valid_behind old (front ++ i ∷ []) is h.1))

-- what a builder asks of a list that is these items
pub list_valid : (old items list : List CItem) → list ≡ items → AreValidBehind old [] items → AreValidAfter old list
list_valid old items list e h = subst (λ (l : List CItem). AreValidAfter l list) (append-nil old) (subst (λ (l : List CItem). AreValidAfter (old ++ []) l) (sym e) (valid_behind old [] items h))

pub list_spelled : (items list : List CItem) → list ≡ items → AreSpelledItems items → AreSpelledItems list
list_spelled items list e h = subst AreSpelledItems (sym e) h

-- what it answers
pub list_put : (old items list new : List CItem) → list ≡ items → new ≡ old ++ list → new ≡ old ++ items
list_put old items list new e h = h ∙ ap (λ (l : List CItem). old ++ l) e
