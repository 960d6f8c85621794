-- Facts about runs, as statements.
use Rattle.std.specs.Prelude.{ℕ, zero, suc, ◌+◌, ◌*◌, ◌≡◌, ◌≢◌, ◌<◌, ◌≤◌, true, false, List, [], ◌∷◌, ◌++◌, slice_get}
use Rattle.ecd_cast.specs.declared.tree.Expr.{Expr}
use Rattle.ecd_cast.specs.declared.tree.Stmt.{Stmt}
use Rattle.ecd_cast.specs.declared.tree.Stmt.TheVariants.{If, For, Number as DeclNumber}
use Rattle.ecd_cast.specs.declared.tree.Source.TheVariants.{Call as FromCall}
use Rattle.ecd_cast.specs.declared.tree.Function.{Function}
use Rattle.ecd_cast.specs.declared.tree.CItem.{CItem}
use Rattle.ecd_cast.specs.Memory.{Name, Memory, Event, Step, Enters, Leaves, WritesByte, WritesCell, after, writes_of, steps_of, first_steps, most_active}
use Rattle.ecd_cast.specs.declared.value.Value.{Value}
use Rattle.ecd_cast.specs.declared.value.Value.TheVariants.{Number as Num}
use Rattle.ecd_cast.specs.Expressions.{Scopes, Frame, lookup, given, Gives}
use Rattle.ecd_cast.specs.Meaning.{Calls, Place, block, does, called, calls_of, shifted, count_of, count_all, frame_of, with_args, declare, leave, Run}
use Rattle.ecd_calculus.specs.Ends.{End, Behind, With, Ends, Does}
use Rattle.ecd_calculus.specs.Rules.{Tells}
use Rattle.ecd_cast.specs.Kept.{IsNew}

-- items of other names behind a function change nothing of what it does
abbrev pub MeaningIsKept : Type 0
MeaningIsKept = (items more : List CItem) (g : Name) (vs : List Value) (m : Memory) → IsNew g more → calls_of (items ++ more) g vs m ≡ calls_of items g vs m

-- a statement that falls through, and those behind it
abbrev pub Sequence : Type 0
Sequence =
    (calls : Calls) (s : Stmt) (rest : List Stmt) (p : Place) (env : Scopes) (m : Memory) (next : Scopes) (e : End) (vs ws : List Event) (a b : ℕ) →
    Ends (does calls s p env m) (Behind next) vs a → Ends (block calls rest (shifted p (count_of s)) next (after vs m)) e ws b → Ends (block calls (s ∷ rest) p env m) e (vs ++ ws) (suc (a + b))

-- a statement that returns: those behind it are not run
abbrev pub SequenceReturns : Type 0
SequenceReturns =
    (calls : Calls) (s : Stmt) (rest : List Stmt) (p : Place) (env : Scopes) (m : Memory) (n : ℕ) (vs : List Event) (most : ℕ) →
    Ends (does calls s p env m) (With n) vs most → Ends (block calls (s ∷ rest) p env m) (With n) vs (suc most)

-- behind a block its variables are gone
abbrev pub outside : End → End
outside (Behind env) = Behind (leave env)
outside (With n) = With n

-- a choice is the one block or the other
pub record Choice : Type 0 where
  pub first :
      (calls : Calls) (t : Expr) (ys ns : List Stmt) (p : Place) (env : Scopes) (m : Memory) (e : End) (ws : List Event) (most : ℕ) →
      Tells t env m true → Ends (block calls ys (shifted p 1) ([] ∷ env) m) e ws most → Ends (does calls (If t ys ns) p env m) (outside e) ws most
  pub second :
      (calls : Calls) (t : Expr) (ys ns : List Stmt) (p : Place) (env : Scopes) (m : Memory) (e : End) (ws : List Event) (most : ℕ) →
      Tells t env m false → Ends (block calls ns (shifted p (1 + count_all ys)) ([] ∷ env) m) e ws most → Ends (does calls (If t ys ns) p env m) (outside e) ws most

-- a call whose body returns
abbrev pub Call : Type 0
Call =
    (calls : Calls) (at : ℕ) (f : Function) (args : List Value) (m : Memory) (n : ℕ) (ws : List Event) (most : ℕ) →
    Ends (block calls f.body (record { item = at; statement = 1 }) (frame_of f.params args ∷ []) m) (With n) ws most → Does (called calls at f args m) n ws most

-- a declaration from a call
abbrev pub CallDeclares : Type 0
CallDeclares =
    (calls : Calls) (x g : Name) (args : List Expr) (p : Place) (env : Scopes) (m : Memory) (n : ℕ) (vs : List Value) (ws : List Event) (most : ℕ) →
    ((f : List Value → Run) → with_args p args env m [] f ≡ f vs) → Ends (calls g vs m) (With n) ws most → Ends (does calls (DeclNumber x (FromCall g args)) p env m) (Behind (declare x (Num n) env)) ws most

-- A loop of n turns that fall through and write nothing. E are the scopes before each turn, and each turn takes at most k steps besides its own.
abbrev pub Repetition : Type 0
Repetition =
    (calls : Calls) (x b : Name) (body : List Stmt) (p : Place) (m : Memory) (E : ℕ → Scopes) (n k : ℕ) → given (lookup (E 0) b) ≡ Gives (Num n) →
    ((i : ℕ) → i < n → (f : Frame) × Ends (block calls body (shifted p 1) (((x, Num i) ∷ []) ∷ E i) m) (Behind (f ∷ E (i + 1))) [] k) →
    Ends (does calls (For x b body) p (E 0) m) (Behind (E n)) [] (n * suc k)

-- what so many turns write, beginning with the turn i
abbrev pub written : (ℕ → List Event) → (i left : ℕ) → List Event
written W i zero = []
written W i (suc left) = W i ++ written W (i + 1) left

-- the turns below n fall through: E are the scopes and M the memory before each turn, W what it writes, in at most k steps besides its own
abbrev pub TurnsFall : Calls → Name → List Stmt → Place → (ℕ → Scopes) → (ℕ → Memory) → (ℕ → List Event) → (n k : ℕ) → Type 0
TurnsFall calls x body p E M W n k =
    (i : ℕ) → i < n → (M (i + 1) ≡ after (W i) (M i)) × ((f : Frame) × Ends (block calls body p (((x, Num i) ∷ []) ∷ E i) (M i)) (Behind (f ∷ E (i + 1))) (W i) k)

-- a loop whose turns fall through writes what they write, in order
abbrev pub LoopFalls : Type 0
LoopFalls =
    (calls : Calls) (x b : Name) (body : List Stmt) (p : Place) (E : ℕ → Scopes) (M : ℕ → Memory) (W : ℕ → List Event) (n k : ℕ) → given (lookup (E 0) b) ≡ Gives (Num n) →
    TurnsFall calls x body (shifted p 1) E M W n k → Ends (does calls (For x b body) p (E 0) (M 0)) (Behind (E n)) (written W 0 n) (n * suc k)

-- a loop that returns in the turn j
abbrev pub LoopReturns : Type 0
LoopReturns =
    (calls : Calls) (x b : Name) (body : List Stmt) (p : Place) (E : ℕ → Scopes) (M : ℕ → Memory) (W : ℕ → List Event) (n k j : ℕ) → given (lookup (E 0) b) ≡ Gives (Num n) → j < n →
    TurnsFall calls x body (shifted p 1) E M W j k → (r : ℕ) (V : List Event) → Ends (block calls body (shifted p 1) (((x, Num j) ∷ []) ∷ E j) (M j)) (With r) V k →
    Ends (does calls (For x b body) p (E 0) (M 0)) (With r) (written W 0 j ++ V) (suc j * suc k)

-- the events write to other blocks than this one
abbrev pub Spares : ℕ → List Event → Type 0
Spares b [] = Unit {0}
Spares b (WritesByte k o v ∷ es) = (k ≢ b) × Spares b es
Spares b (WritesCell k x c ∷ es) = (k ≢ b) × Spares b es
Spares b (Step ∷ es) = Spares b es
Spares b (Enters ∷ es) = Spares b es
Spares b (Leaves ∷ es) = Spares b es

-- what is written to other blocks leaves a block as it was
abbrev pub OtherBlocks : Type 0
OtherBlocks = (es : List Event) (b : ℕ) (m : Memory) → Spares b es → slice_get (after es m) b ≡ slice_get m b

-- the memory is what the writes alone make of it
abbrev pub WritesMakeMemory : Type 0
WritesMakeMemory = (es : List Event) (m : Memory) → after es m ≡ after (writes_of es) m

-- the first n steps are at most n, and all steps are the whole
pub record Steps : Type 0 where
  pub few : (n : ℕ) (es : List Event) → steps_of (first_steps n es) ≤ n
  pub whole : (es : List Event) → first_steps (steps_of es) es ≡ es
  pub active : (now : ℕ) (es : List Event) → now ≤ most_active now es
