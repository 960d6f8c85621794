-- Functions by name, and their arguments.
use Rattle.std.specs.Prelude.{ℕ, ◌≡◌, ◌<◌, List, [], take, slice_get, Some, Result, Ok, Err}
use Rattle.ecd_cast.specs.declared.tree.CItem.{CItem}
use Rattle.ecd_cast.specs.declared.tree.CItem.TheVariants.{Function as AFunction}
use Rattle.ecd_cast.specs.declared.tree.Function.{Function}
use Rattle.ecd_cast.specs.declared.tree.Expr.{Expr}
use Rattle.ecd_cast.specs.declared.value.Value.{Value}
use Rattle.ecd_cast.specs.Memory.{Name, Memory}
use Rattle.ecd_cast.specs.Expressions.{Scopes}
use Rattle.ecd_cast.specs.Meaning.{Run, Stuck, Place, calls_of, called, with_args, stuck}
use Rattle.ecd_ceval.specs.declared.reason.Reason.{Reason}
use Rattle.ecd_ceval.specs.Outcomes.{number_of}

-- no function of these items has the name
pub record IsUnknown (items : List CItem) (g : Name) : Type 0 where
  pub means : (vs : List Value) (m : Memory) → calls_of items g vs m ≡ Stuck 0 0 0 []

-- the name means this function, which stands at this number, before another number
pub record IsMeant (items : List CItem) (before : ℕ) (g : Name) (number : ℕ) (f : Function) : Type 0 where
  pub earlier : number < before
  pub there : slice_get items number ≡ Some (AFunction f)
  pub means : (vs : List Value) (m : Memory) → calls_of (take before items) g vs m ≡ called (calls_of (take number items)) number f vs m

-- the values of arguments, or the reason that there are none
abbrev pub ArgumentsAre : Result (List Value) Reason → List Expr → Scopes → Memory → Type 0
ArgumentsAre (Ok vs) args env m = (p : Place) (f : List Value → Run) → with_args p args env m [] f ≡ f vs
ArgumentsAre (Err r) args env m = (p : Place) (f : List Value → Run) → with_args p args env m [] f ≡ stuck p (number_of r)
