-- What bodies answer, wherever they stand: a return with a property, within a number of steps, and what they write.
use Rattle.std.specs.Prelude.{ℕ, ◌≡◌, ◌⊎◌, Bool, List, []}
use Rattle.ecd_cast.specs.declared.tree.Expr.{Expr}
use Rattle.ecd_cast.specs.declared.tree.Stmt.{Stmt}
use Rattle.ecd_cast.specs.Memory.{Memory, Event}
use Rattle.ecd_cast.specs.declared.value.Value.{Value}
use Rattle.ecd_cast.specs.declared.value.Value.TheVariants.{Number as Num, Truth}
use Rattle.ecd_cast.specs.Expressions.{Scopes, value_of, Gives}
use Rattle.ecd_cast.specs.Meaning.{Run, Calls, Place, block, with_args}
use Rattle.ecd_calculus.specs.Ends.{Ends, Behind, With, Answers}

-- the statements return a number with P in at most so many steps, and write nothing
pub record Works (calls : Calls) (m : Memory) (body : List Stmt) (env : Scopes) (P : ℕ → Type 0) (most : ℕ) : Type 0 where
  pub run : (q : Place) → Answers (block calls body q env m) P most

-- the run falls through into scopes with F in at most so many steps, and writes nothing
pub record Passes (r : Run) (F : Scopes → Type 0) (most : ℕ) : Type 0 where
  pub scopes : Scopes
  pub falls : Ends r (Behind scopes) [] most
  pub has : F scopes

-- the run does one or the other
abbrev pub GoesOn : Run → (ℕ → Type 0) → (Scopes → Type 0) → ℕ → Type 0
GoesOn r P F most = Answers r P most ⊎ Passes r F most

-- the statements return a number with P or fall through into scopes with F
pub record Goes (calls : Calls) (m : Memory) (body : List Stmt) (env : Scopes) (P : ℕ → Type 0) (F : Scopes → Type 0) (most : ℕ) : Type 0 where
  pub run : (q : Place) → GoesOn (block calls body q env m) P F most

-- the expression gives this number
pub record Is (e : Expr) (env : Scopes) (m : Memory) (n : ℕ) : Type 0 where
  pub is : value_of e env m ≡ Gives (Num n)

-- the expression gives this truth
pub record Tells (e : Expr) (env : Scopes) (m : Memory) (b : Bool) : Type 0 where
  pub tells : value_of e env m ≡ Gives (Truth b)

-- the arguments are these values
pub record Hands (args : List Expr) (env : Scopes) (m : Memory) (vs : List Value) : Type 0 where
  pub hands : (p : Place) (f : List Value → Run) → with_args p args env m [] f ≡ f vs

-- ---- code that writes

-- the run returns a number, and has written, with P
pub record Gives_back (r : Run) (P : ℕ → List Event → Type 0) (most : ℕ) : Type 0 where
  pub answer : ℕ
  pub writes : List Event
  pub does : Ends r (With answer) writes most
  pub has : P answer writes

-- the run falls through into scopes, and has written, with F
pub record Falls_on (r : Run) (F : Scopes → List Event → Type 0) (most : ℕ) : Type 0 where
  pub scopes : Scopes
  pub writes : List Event
  pub falls : Ends r (Behind scopes) writes most
  pub has : F scopes writes

-- the run does one or the other, in at most so many steps
abbrev pub Acts : Run → (ℕ → List Event → Type 0) → (Scopes → List Event → Type 0) → ℕ → Type 0
Acts r P F most = Gives_back r P most ⊎ Falls_on r F most
