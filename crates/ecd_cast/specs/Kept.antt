-- Names that items do not give to a function.
use Rattle.std.specs.Prelude.{◌≡◌, false, List, [], ◌∷◌, bytes_eq}
use Rattle.ecd_cast.specs.declared.tree.CItem.{CItem}
use Rattle.ecd_cast.specs.declared.tree.CItem.TheVariants.{Struct as AStruct, Function as AFunction}
use Rattle.ecd_cast.specs.Memory.{Name}

-- no function of these items has the name
abbrev pub IsNew : Name → List CItem → Type 0
IsNew g [] = Unit {0}
IsNew g (AStruct s ∷ is) = IsNew g is
IsNew g (AFunction f ∷ is) = (bytes_eq f.name g ≡ false) × IsNew g is
