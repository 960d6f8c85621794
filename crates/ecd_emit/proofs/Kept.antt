-- What is appended under other names changes nothing of a function.
use Rattle.std.proofs.Common.{◌≡◌, List, [], ◌∷◌, ◌++◌, sym, subst, Bool, true, false}
use Rattle.std.specs.Prelude.{bytes_eq, Option, Some, if◌then◌else◌}
use Rattle.ecd_cast.specs.declared.tree.Function.{Function}
use Rattle.ecd_cast.specs.declared.tree.CItem.{CItem}
use Rattle.ecd_cast.specs.declared.tree.CItem.TheVariants.{Struct as AStruct, Function as AFunction}
use Rattle.ecd_cast.specs.Memory.{Name}
use Rattle.ecd_cast.specs.Kept.{IsNew}
use Rattle.ecd_cast.specs.Meaning.{calls_of}
use Rattle.ecd_cast.specs.Validity.{functions_of, function_named}
use Rattle.ecd_calculus.proofs.Calculus.{calls_kept}
use Rattle.ecd_emit.specs.Windows.{Callee}
use Rattle.ecd_emit.specs.Among.{IsAmong}

-- ---- what a function does

same_callee : (items more : List CItem) (g : Name) → IsNew g more → calls_of items g ≡ calls_of (items ++ more) g
same_callee items more g new = λ i vs m. sym (calls_kept items more g vs m new) i

-- whatever holds of a function's callee goes on holding
pub callee_kept : (P : Callee → Type 0) (items more : List CItem) (g : Name) → IsNew g more → P (calls_of items g) → P (calls_of (items ++ more) g)
callee_kept P items more g new h = subst P (same_callee items more g new) h

-- ---- which function a name stands for

pub named_kept : (items more : List CItem) (g : Name) (f : Function) → function_named (functions_of items) g ≡ Some f → function_named (functions_of (items ++ more)) g ≡ Some f
named_kept [] more g f e = absurd cc
named_kept (AStruct s ∷ is) more g f e = named_kept is more g f e
named_kept (AFunction h ∷ is) more g f e = by_name (bytes_eq h.name g) e (named_kept is more g f)
  where
    by_name : (t : Bool) {x y : Option Function} → (if t then Some h else x) ≡ Some f → (x ≡ Some f → y ≡ Some f) → (if t then Some h else y) ≡ Some f
    by_name true e k = e
    by_name false e k = k e

pub among_kept : (f : Function) (items more : List CItem) → IsAmong f items → IsAmong f (items ++ more)
among_kept f items more h = named_kept items more f.name f h
