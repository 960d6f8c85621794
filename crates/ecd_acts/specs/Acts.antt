-- What is known of a run: of the answer, the writes and the steps where it returns, and of the scopes, the writes and the steps where it falls through.
use Rattle.std.specs.Prelude.{ℕ, suc, ◌+◌, ◌≡◌, List, [], ◌++◌}
use Rattle.ecd_cast.specs.declared.tree.Expr.{Expr}
use Rattle.ecd_cast.specs.declared.tree.Stmt.{Stmt}
use Rattle.ecd_cast.specs.declared.value.Value.{Value}
use Rattle.ecd_cast.specs.Memory.{Memory, Event, writes_of, steps_of}
use Rattle.ecd_cast.specs.Expressions.{Scopes, value_of, Gives}
use Rattle.ecd_cast.specs.Meaning.{Run, Falls, Returns, Stuck, Calls, Place, block, with_args}

-- what is known of an answer or of scopes, with all writes in order and the number of steps
abbrev pub Known : Type 0 → Type 1
Known X = X → List Event → ℕ → Type 0

-- a returning run has P, one that falls through F, and none is stuck
abbrev pub Meets : Run → Known ℕ → Known Scopes → Type 0
Meets (Returns n es) P F = P n (writes_of es) (steps_of es)
Meets (Falls env es) P F = F env (writes_of es) (steps_of es)
Meets (Stuck reason item statement es) P F = ⊥

-- what no run has
abbrev pub Never : {X : Type 0} → Known X
Never x ws n = ⊥

-- The statements, in these scopes and this memory, wherever they stand: returns have P, falling through has F.
pub record Acts (calls : Calls) (m : Memory) (body : List Stmt) (env : Scopes) (P : Known ℕ) (F : Known Scopes) : Type 0 where
  pub run : (q : Place) → Meets (block calls body q env m) P F

-- the run returns with P
pub record Returns_with (r : Run) (P : Known ℕ) : Type 0 where
  pub meets : Meets r P Never

-- what is to be shown behind one more step
abbrev pub step : {X : Type 0} → Known X → Known X
step P x ws n = P x ws (suc n)

-- and behind a step that wrote
abbrev pub wrote : {X : Type 0} → List Event → Known X → Known X
wrote vs P x ws n = P x (vs ++ ws) (suc n)

-- what is to be shown behind these writes and so many steps
abbrev pub behind : {X : Type 0} → List Event → ℕ → Known X → Known X
behind vs k P x ws n = P x (vs ++ ws) (k + n)

-- the expression gives this value
pub record Is (e : Expr) (env : Scopes) (m : Memory) (v : Value) : Type 0 where
  pub is : value_of e env m ≡ Gives v

-- the arguments are these values
pub record Hands (args : List Expr) (env : Scopes) (m : Memory) (vs : List Value) : Type 0 where
  pub hands : (p : Place) (f : List Value → Run) → with_args p args env m [] f ≡ f vs
