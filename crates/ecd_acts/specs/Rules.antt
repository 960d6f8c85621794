-- The rules for bodies, statement by statement: what is to be shown of the statements behind the first one. Each holds for all P, Q, F, G and I; the laws at the end say so for those that are tested by a truth, and `proofs` gives them for all.
use Rattle.std.specs.Prelude.{ℕ, suc, ◌+◌, ◌%◌, ◌<◌, ◌≤◌, ◌≡◌, Bool, true, false, if◌then◌else◌, map, Some, List, [], ◌∷◌, ◌++◌, slice_get, length}
use Rattle.ecd_cast.specs.declared.tree.Expr.{Expr}
use Rattle.ecd_cast.specs.declared.tree.Expr.TheVariants.{Number, Var}
use Rattle.ecd_cast.specs.declared.tree.Stmt.{Stmt}
use Rattle.ecd_cast.specs.declared.tree.Stmt.TheVariants.{Number as DeclNumber, Pointer as DeclPointer, Assign, Store, SetCell, If, For, Return}
use Rattle.ecd_cast.specs.declared.tree.Source.TheVariants.{Value as FromValue, Call as FromCall}
use Rattle.ecd_cast.specs.declared.tree.Function.{Function}
use Rattle.ecd_cast.specs.declared.value.Value.{Value}
use Rattle.ecd_cast.specs.declared.value.Value.TheVariants.{Number as Num, Truth, Bytes as Ptr, Struct as Str}
use Rattle.ecd_cast.specs.declared.value.Cell.TheVariants.{Number as HoldsNumber, Bytes as HoldsPointer}
use Rattle.ecd_cast.specs.Memory.{Name, Memory, Bytes, Event, WritesByte, WritesCell, after}
use Rattle.ecd_cast.specs.Expressions.{Scopes, value_of, Gives}
use Rattle.ecd_cast.specs.Meaning.{Run, Calls, called, frame_of, declare, assign, leave}
use Rattle.ecd_acts.specs.Acts.{Known, Acts, Never, Returns_with, step, wrote, behind, Is, Hands}

-- what is known may be said more weakly
pub record Weakening (P Q : Known ℕ) (F G : Known Scopes) : Type 0 where
  pub bodies :
      {calls : Calls} {m : Memory} {body : List Stmt} {env : Scopes} →
      ((n : ℕ) (ws : List Event) (k : ℕ) → P n ws k → Q n ws k) → ((e : Scopes) (ws : List Event) (k : ℕ) → F e ws k → G e ws k) → Acts calls m body env P F → Acts calls m body env Q G
  pub runs : {r : Run} → ((n : ℕ) (ws : List Event) (k : ℕ) → P n ws k → Q n ws k) → Returns_with r P → Returns_with r Q

-- the ends of bodies, and one body behind another
pub record Sequences (P : Known ℕ) (F G : Known Scopes) : Type 0 where
  pub nothing : {calls : Calls} {m : Memory} {env : Scopes} → F env [] 0 → Acts calls m [] env P F
  pub return_rule : {calls : Calls} {m : Memory} {e : Expr} {rest : List Stmt} {env : Scopes} {n : ℕ} → Is e env m (Num n) → P n [] 1 → Acts calls m (Return e ∷ rest) env P F
  pub joined :
      {calls : Calls} {m : Memory} {xs ys : List Stmt} {env : Scopes} →
      Acts calls m xs env P G → ((e : Scopes) (ws : List Event) (k : ℕ) → G e ws k → Acts calls (after ws m) ys e (behind ws k P) (behind ws k F)) → Acts calls m (xs ++ ys) env P F

-- declarations and assignments of values, numbers or pointers
pub record Variables (P : Known ℕ) (F : Known Scopes) : Type 0 where
  pub number :
      {calls : Calls} {m : Memory} {x : Name} {e : Expr} {rest : List Stmt} {env : Scopes} {v : Value} →
      Is e env m v → Acts calls m rest (declare x v env) (step P) (step F) → Acts calls m (DeclNumber x (FromValue e) ∷ rest) env P F
  pub pointer :
      {calls : Calls} {m : Memory} {x : Name} {e : Expr} {rest : List Stmt} {env : Scopes} {v : Value} →
      Is e env m v → Acts calls m rest (declare x v env) (step P) (step F) → Acts calls m (DeclPointer x e ∷ rest) env P F
  pub assigned :
      {calls : Calls} {m : Memory} {x : Name} {e : Expr} {rest : List Stmt} {env : Scopes} {v : Value} →
      Is e env m v → Acts calls m rest (assign x v env) (step P) (step F) → Acts calls m (Assign x (FromValue e) ∷ rest) env P F

-- calls of functions, which may write; and functions, by their bodies
pub record Calling (P Q : Known ℕ) (F : Known Scopes) : Type 0 where
  pub number :
      {calls : Calls} {m : Memory} {x g : Name} {args : List Expr} {rest : List Stmt} {env : Scopes} (vs : List Value) →
      Hands args env m vs → Returns_with (calls g vs m) Q →
      ((n : ℕ) (ws : List Event) (k : ℕ) → Q n ws k → Acts calls (after ws m) rest (declare x (Num n) env) (behind ws k (step P)) (behind ws k (step F))) → Acts calls m (DeclNumber x (FromCall g args) ∷ rest) env P F
  pub assigned :
      {calls : Calls} {m : Memory} {x g : Name} {args : List Expr} {rest : List Stmt} {env : Scopes} (vs : List Value) →
      Hands args env m vs → Returns_with (calls g vs m) Q →
      ((n : ℕ) (ws : List Event) (k : ℕ) → Q n ws k → Acts calls (after ws m) rest (assign x (Num n) env) (behind ws k (step P)) (behind ws k (step F))) → Acts calls m (Assign x (FromCall g args) ∷ rest) env P F
  pub function :
      {calls : Calls} {m : Memory} (number : ℕ) (f : Function) (args : List Value) → Acts calls m f.body (frame_of f.params args ∷ []) P Never → Returns_with (called calls number f args m) P

-- calls of functions that write nothing
pub record Asking (P : Known ℕ) (R : ℕ → ℕ → Type 0) (F : Known Scopes) : Type 0 where
  pub number :
      {calls : Calls} {m : Memory} {x g : Name} {args : List Expr} {rest : List Stmt} {env : Scopes} (vs : List Value) →
      Hands args env m vs → Returns_with (calls g vs m) (λ n ws k. (ws ≡ []) × R n k) →
      ((n k : ℕ) → R n k → Acts calls m rest (declare x (Num n) env) (λ r ws j. P r ws (suc (k + j))) (λ e ws j. F e ws (suc (k + j)))) → Acts calls m (DeclNumber x (FromCall g args) ∷ rest) env P F
  pub assigned :
      {calls : Calls} {m : Memory} {x g : Name} {args : List Expr} {rest : List Stmt} {env : Scopes} (vs : List Value) →
      Hands args env m vs → Returns_with (calls g vs m) (λ n ws k. (ws ≡ []) × R n k) →
      ((n k : ℕ) → R n k → Acts calls m rest (assign x (Num n) env) (λ r ws j. P r ws (suc (k + j))) (λ e ws j. F e ws (suc (k + j)))) → Acts calls m (Assign x (FromCall g args) ∷ rest) env P F

-- writes of bytes and cells
pub record Writing (P : Known ℕ) (F : Known Scopes) : Type 0 where
  pub byte :
      {calls : Calls} {m : Memory} {x : Name} {i e : Expr} {rest : List Stmt} {env : Scopes} {block offset j n : ℕ} {bytes : List ℕ} →
      Is (Var x) env m (Ptr block offset) → Is i env m (Num j) → Is e env m (Num n) → slice_get m block ≡ Some (Bytes bytes) → offset + j < length bytes →
      (let ws : List Event = WritesByte block (offset + j) (n % 256) ∷ [] in Acts calls (after ws m) rest env (wrote ws P) (wrote ws F)) → Acts calls m (Store x i e ∷ rest) env P F
  pub number_cell :
      {calls : Calls} {m : Memory} {x c : Name} {e : Expr} {rest : List Stmt} {env : Scopes} {block n : ℕ} →
      Is (Var x) env m (Str block) → Is e env m (Num n) →
      (let ws : List Event = WritesCell block c (HoldsNumber n) ∷ [] in Acts calls (after ws m) rest env (wrote ws P) (wrote ws F)) → Acts calls m (SetCell x c e ∷ rest) env P F
  pub pointer_cell :
      {calls : Calls} {m : Memory} {x c : Name} {e : Expr} {rest : List Stmt} {env : Scopes} {block b o : ℕ} →
      Is (Var x) env m (Str block) → Is e env m (Ptr b o) →
      (let ws : List Event = WritesCell block c (HoldsPointer b o) ∷ [] in Acts calls (after ws m) rest env (wrote ws P) (wrote ws F)) → Acts calls m (SetCell x c e ∷ rest) env P F

-- choices: each block may return or fall through, into what is behind the choice
pub record Choosing (P : Known ℕ) (F G : Known Scopes) : Type 0 where
  pub choice :
      {calls : Calls} {m : Memory} {t : Expr} {ys ns rest : List Stmt} {env : Scopes} (b : Bool) →
      Is t env m (Truth b) → (b ≡ true → Acts calls m ys ([] ∷ env) (step P) (λ e ws k. G (leave e) ws k)) → (b ≡ false → Acts calls m ns ([] ∷ env) (step P) (λ e ws k. G (leave e) ws k)) →
      ((e : Scopes) (ws : List Event) (k : ℕ) → G e ws k → Acts calls (after ws m) rest e (behind ws k (step P)) (behind ws k (step F))) → Acts calls m (If t ys ns ∷ rest) env P F
  -- the same as the last statement
  pub last :
      {calls : Calls} {m : Memory} {t : Expr} {ys ns : List Stmt} {env : Scopes} (b : Bool) →
      Is t env m (Truth b) → (b ≡ true → Acts calls m ys ([] ∷ env) (step P) (λ e ws k. F (leave e) ws (suc k))) → (b ≡ false → Acts calls m ns ([] ∷ env) (step P) (λ e ws k. F (leave e) ws (suc k))) →
      Acts calls m (If t ys ns ∷ []) env P F
  -- `if t { ys } else { }` whose block returns
  pub early :
      {calls : Calls} {m : Memory} {t : Expr} {ys rest : List Stmt} {env : Scopes} (b : Bool) →
      Is t env m (Truth b) → (b ≡ true → Acts calls m ys ([] ∷ env) (step P) Never) → (b ≡ false → Acts calls m rest env (step P) (step F)) → Acts calls m (If t ys [] ∷ rest) env P F
  -- `if t { return e; } else { }`
  pub guard :
      {calls : Calls} {m : Memory} {t e : Expr} {rest : List Stmt} {env : Scopes} (b : Bool) (n : ℕ) →
      Is t env m (Truth b) → Is e ([] ∷ env) m (Num n) → (b ≡ true → P n [] 2) → (b ≡ false → Acts calls m rest env (step P) (step F)) → Acts calls m (If t (Return e ∷ []) [] ∷ rest) env P F

-- a test, whether it holds, and the number that is returned where it does
pub record Case : Type 0 where
  pub test : Expr
  pub holds : Bool
  pub answer : ℕ

-- `if test { return answer; } else { }` for each of them, and another answer behind them
abbrev pub guards : List Case → ℕ → List Stmt
guards [] n = Return (Number n) ∷ []
guards (c ∷ cases) n = If c.test (Return (Number c.answer) ∷ []) [] ∷ guards cases n

abbrev pub decided : List Case → ℕ → ℕ
decided [] n = n
decided (c ∷ cases) n = if c.holds then c.answer else decided cases n

-- chains of guards: the tests hold as said, so the first that holds decides
pub record Deciding (P : Known ℕ) (F : Known Scopes) : Type 0 where
  pub chain :
      {calls : Calls} {m : Memory} {env : Scopes} (cases : List Case) (n : ℕ) →
      map (λ c. value_of c.test env m) cases ≡ map (λ c. Gives (Truth c.holds)) cases → ((k : ℕ) → k ≤ length cases + 1 → P (decided cases n) [] k) → Acts calls m (guards cases n) env P F

-- Loops. I is known before the turn i of the scopes, of all writes so far, and of the steps so far, those of each turn and one more for it: so turns say what they cost.
pub record Repeating (P : Known ℕ) (F : Known Scopes) (I : ℕ → Known Scopes) : Type 0 where
  pub loop :
      {calls : Calls} {m : Memory} {x b : Name} {body rest : List Stmt} {env : Scopes} (n : ℕ) →
      Is (Var b) env m (Num n) → I 0 env [] 0 →
      ((i : ℕ) (now : Scopes) (ws : List Event) (k : ℕ) → i < n → I i now ws k →
      Acts calls (after ws m) body (((x, Num i) ∷ []) ∷ now) (λ r vs j. P r (ws ++ vs) (suc (suc (k + j)))) (λ next vs j. I (suc i) (leave next) (ws ++ vs) (suc (k + j)))) →
      ((now : Scopes) (ws : List Event) (k : ℕ) → I n now ws k → Acts calls (after ws m) rest now (behind ws k (step P)) (behind ws k (step F))) → Acts calls m (For x b body ∷ rest) env P F

-- The same of loops that write nothing and leave the variables round them: J is known before the turn i of the steps so far.
pub record RepeatingStill (P : Known ℕ) (F : Known Scopes) (J : ℕ → ℕ → Type 0) : Type 0 where
  pub loop :
      {calls : Calls} {m : Memory} {x b : Name} {body rest : List Stmt} {env : Scopes} (n : ℕ) →
      Is (Var b) env m (Num n) → J 0 0 →
      ((i k : ℕ) → i < n → J i k → Acts calls m body (((x, Num i) ∷ []) ∷ env) (λ r vs j. P r vs (suc (suc (k + j)))) (λ next vs j. (leave next ≡ env) × (vs ≡ []) × J (suc i) (suc (k + j)))) →
      ((k : ℕ) → J n k → Acts calls m rest env (λ r vs j. P r vs (suc (k + j))) (λ next vs j. F next vs (suc (k + j)))) → Acts calls m (For x b body ∷ rest) env P F

-- The same of loops that write nothing, round which the scopes are those of some value: J is known before the turn i of the value, and of the steps so far.
pub record RepeatingMoving {X : Type 0} (scopes : X → Scopes) (P : Known ℕ) (F : Known Scopes) (J : ℕ → X → ℕ → Type 0) : Type 0 where
  pub loop :
      {calls : Calls} {m : Memory} {x b : Name} {body rest : List Stmt} (n : ℕ) (start : X) →
      Is (Var b) (scopes start) m (Num n) → J 0 start 0 →
      ((i : ℕ) (v : X) (k : ℕ) → i < n → J i v k →
      Acts calls m body (((x, Num i) ∷ []) ∷ scopes v) (λ r vs j. P r vs (suc (suc (k + j)))) (λ next vs j. (u : X) × (leave next ≡ scopes u) × (vs ≡ []) × J (suc i) u (suc (k + j)))) →
      ((v : X) (k : ℕ) → J n v k → Acts calls m rest (scopes v) (λ r vs j. P r vs (suc (k + j))) (λ next vs j. F next vs (suc (k + j)))) → Acts calls m (For x b body ∷ rest) (scopes start) P F

-- ---- laws

-- what is known, told by a truth
abbrev pub Told : Type 0 → Type 0
Told X = X → List Event → ℕ → Bool

abbrev pub holds : {X : Type 0} → Told X → Known X
holds p x ws k = p x ws k ≡ true

abbrev pub WeakeningHolds : Type 0
WeakeningHolds = (p q : Told ℕ) (f g : Told Scopes) → Weakening (holds p) (holds q) (holds f) (holds g)

abbrev pub SequencesHold : Type 0
SequencesHold = (p : Told ℕ) (f g : Told Scopes) → Sequences (holds p) (holds f) (holds g)

abbrev pub VariablesHold : Type 0
VariablesHold = (p : Told ℕ) (f : Told Scopes) → Variables (holds p) (holds f)

abbrev pub CallingHolds : Type 0
CallingHolds = (p q : Told ℕ) (f : Told Scopes) → Calling (holds p) (holds q) (holds f)

abbrev pub AskingHolds : Type 0
AskingHolds = (p : Told ℕ) (r : ℕ → ℕ → Bool) (f : Told Scopes) → Asking (holds p) (λ n k. r n k ≡ true) (holds f)

abbrev pub DecidingHolds : Type 0
DecidingHolds = (p : Told ℕ) (f : Told Scopes) → Deciding (holds p) (holds f)

abbrev pub WritingHolds : Type 0
WritingHolds = (p : Told ℕ) (f : Told Scopes) → Writing (holds p) (holds f)

abbrev pub ChoosingHolds : Type 0
ChoosingHolds = (p : Told ℕ) (f g : Told Scopes) → Choosing (holds p) (holds f) (holds g)

abbrev pub RepeatingHolds : Type 0
RepeatingHolds = (p : Told ℕ) (f : Told Scopes) (i : ℕ → Told Scopes) → Repeating (holds p) (holds f) (λ turn. holds (i turn))

abbrev pub StillHolds : Type 0
StillHolds = (p : Told ℕ) (f : Told Scopes) (j : ℕ → ℕ → Bool) → RepeatingStill (holds p) (holds f) (λ turn steps. j turn steps ≡ true)

abbrev pub MovingHolds : Type 0
MovingHolds = (scopes : ℕ → Scopes) (p : Told ℕ) (f : Told Scopes) (j : ℕ → ℕ → ℕ → Bool) → RepeatingMoving scopes (holds p) (holds f) (λ turn v steps. j turn v steps ≡ true)
