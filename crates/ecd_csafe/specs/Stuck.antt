-- Where a run is stuck.
use Rattle.std.specs.Prelude.{ℕ, ◌≡◌, ◌<◌, ◌≤◌, List, Some, slice_get}
use Rattle.ecd_cast.specs.declared.tree.Function.{Function}
use Rattle.ecd_cast.specs.declared.tree.CItem.{CItem}
use Rattle.ecd_cast.specs.declared.tree.CItem.TheVariants.{Function as AFunction}
use Rattle.ecd_cast.specs.Memory.{Name, Memory, Event}
use Rattle.ecd_cast.specs.declared.value.Value.{Value}
use Rattle.ecd_cast.specs.Meaning.{Stuck, calls_of}
use Rattle.ecd_cast.specs.Meaning.{count_all}

-- the item of this number is a function, and it has a statement of this number, those inside others counted
pub record IsStatement (items : List CItem) (item statement : ℕ) : Type 0 where
  pub function : Function
  pub stands : slice_get items item ≡ Some (AFunction function)
  pub first : 0 < statement
  pub last : statement ≤ count_all function.body

-- A call that is stuck for a reason of the table is stuck at a statement of the program.
abbrev pub StuckPlaces : Type 0
StuckPlaces =
    (items : List CItem) (g : Name) (vs : List Value) (m : Memory) (reason item statement : ℕ) (es : List Event) →
    calls_of items g vs m ≡ Stuck reason item statement es → 0 < reason → IsStatement items item statement
