-- Functions among the items of a program, by their names.
use Rattle.std.specs.Prelude.{◌≡◌, false, List, [], ◌∷◌, Some}
use Rattle.ecd_cast.specs.declared.tree.Function.{Function}
use Rattle.ecd_cast.specs.declared.tree.CItem.{CItem}
use Rattle.ecd_cast.specs.Memory.{Name}
use Rattle.ecd_cast.specs.Kept.{IsNew}
use Rattle.ecd_cast.specs.Validity.{functions_of, function_named, function_names, is_among}

-- no function of these items has one of the names
abbrev pub AreNew : List Name → List CItem → Type 0
AreNew [] items = Unit {0}
AreNew (g ∷ gs) items = IsNew g items × AreNew gs items

-- the first function of its name in the items is this one
abbrev pub IsAmong : Function → List CItem → Type 0
IsAmong f items = function_named (functions_of items) f.name ≡ Some f

-- the name is none of the functions'
abbrev pub IsFree : Name → List CItem → Type 0
IsFree g items = is_among (function_names items) g ≡ false
