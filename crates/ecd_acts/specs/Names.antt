-- Variables and functions with numbered names.
use Rattle.std.specs.Prelude.{ℕ, suc, ◌+◌, ◌<◌, ◌≤◌, ◌^◌, ◌≡◌, ◌≢◌, true, false, Some, List, [], ◌∷◌, ◌++◌, length, slice_get, bytes_eq, decimal}
use Rattle.ecd_cast.specs.declared.tree.Function.{Function}
use Rattle.ecd_cast.specs.declared.tree.CItem.{CItem}
use Rattle.ecd_cast.specs.declared.tree.CItem.TheVariants.{Struct as AStruct, Function as AFunction}
use Rattle.ecd_cast.specs.declared.value.Value.{Value}
use Rattle.ecd_cast.specs.Memory.{Name}
use Rattle.ecd_cast.specs.Expressions.{Scopes, lookup}
use Rattle.ecd_cast.specs.Meaning.{declare, assign}
use Rattle.ecd_cast.specs.Kept.{IsNew}
use Rattle.ecd_cast.specs.Validity.{functions_of, function_named}

-- a word with a number behind it
abbrev pub numbered : Name → ℕ → Name
numbered word n = word ++ decimal n

-- the functions among these items are named by their item numbers, the first item having this one
abbrev pub AreNumbered : Name → ℕ → List CItem → Type 0
AreNumbered word first [] = Unit {0}
AreNumbered word first (AStruct s ∷ items) = AreNumbered word (suc first) items
AreNumbered word first (AFunction f ∷ items) = (f.name ≡ numbered word first) × AreNumbered word (suc first) items

-- ---- laws

-- a name is itself, and different numbers make different names
pub record NumberedNames : Type 0 where
  pub same : (x : Name) → bytes_eq x x ≡ true
  pub different : (word : Name) (a b : ℕ) → a < 2 ^ 64 → b < 2 ^ 64 → a ≢ b → bytes_eq (numbered word a) (numbered word b) ≡ false

-- what a variable holds behind declarations and assignments
pub record VariablesFound : Type 0 where
  pub declared : (env : Scopes) (x : Name) (v : Value) → lookup (declare x v env) x ≡ Some v
  pub declared_other : (env : Scopes) (x y : Name) (v : Value) → bytes_eq x y ≡ false → lookup (declare x v env) y ≡ lookup env y
  pub assigned : (env : Scopes) (x : Name) (old v : Value) → lookup env x ≡ Some old → lookup (assign x v env) x ≡ Some v
  pub assigned_other : (env : Scopes) (x y : Name) (v : Value) → bytes_eq x y ≡ false → lookup (assign x v env) y ≡ lookup env y

-- a function that is named by its item number is the one that is found, and the next number's name is new
pub record FunctionsFound : Type 0 where
  pub found : (word : Name) (first i : ℕ) (items : List CItem) (f : Function) → first + length items ≤ 2 ^ 64 → AreNumbered word first items → slice_get items i ≡ Some (AFunction f) → function_named (functions_of items) (numbered word (first + i)) ≡ Some f
  pub new : (word : Name) (first n : ℕ) (items : List CItem) → n < 2 ^ 64 → first + length items ≤ n → AreNumbered word first items → IsNew (numbered word n) items
