-- What the functions of a program do.
use Rattle.std.specs.Prelude.{ℕ, zero, suc, ◌+◌, ◌%◌, true, false, List, [], ◌∷◌, ◌++◌, Option, Some, None, if◌then◌else◌, bytes_eq, slice_get, length, nat_lt}
use Rattle.ecd_cast.specs.declared.tree.Expr.{Expr}
use Rattle.ecd_cast.specs.declared.tree.Source.{Source}
use Rattle.ecd_cast.specs.declared.tree.Source.TheVariants.{Value as FromValue, Call as FromCall}
use Rattle.ecd_cast.specs.declared.tree.Stmt.{Stmt, Row_of-Stmt, end_of-Stmt, more_of-Stmt}
use Rattle.ecd_cast.specs.declared.tree.Stmt.TheVariants.{Number as DeclNumber, Pointer as DeclPointer, Assign, Store, SetCell, If', For', Return}
use Rattle.ecd_cast.specs.declared.tree.Param.{Param}
use Rattle.ecd_cast.specs.declared.tree.Function.{Function}
use Rattle.ecd_cast.specs.declared.tree.CItem.{CItem}
use Rattle.ecd_cast.specs.declared.tree.CItem.TheVariants.{Struct as AStruct, Function as AFunction}
use Rattle.ecd_cast.specs.Memory.{Name, Memory, Block, Bytes, HoldsNumber, HoldsPointer, Value, Num, Truth, Ptr, Str, Event, Step, Enters, Leaves, WritesByte, WritesCell, after}
use Rattle.ecd_cast.specs.Expressions.{Outcome, Gives, Fails, Frame, Scopes, in_frame, lookup, given, value_of}

-- A run, with all that it did in order. It falls through behind a statement, returns a number, or is stuck at a statement for a reason.
pub data Run : Type 0 where
  Falls : Scopes → List Event → Run
  Returns : ℕ → List Event → Run
  Stuck : (reason item statement : ℕ) → List Event → Run

abbrev pub events_of : Run → List Event
events_of (Falls env es) = es
events_of (Returns n es) = es
events_of (Stuck r i s es) = es

abbrev pub doing : List Event → Run → Run
doing es (Falls env ds) = Falls env (es ++ ds)
doing es (Returns n ds) = Returns n (es ++ ds)
doing es (Stuck r i s ds) = Stuck r i s (es ++ ds)

-- goes on where a piece falls through, in the memory that it leaves
abbrev pub and_then : Run → Memory → (Scopes → Memory → Run) → Run
and_then (Falls env es) m f = doing es (f env (after es m))
and_then (Returns n es) m f = Returns n es
and_then (Stuck r i s es) m f = Stuck r i s es

abbrev pub fall : Scopes → Run
fall env = Falls env []

-- where a statement stands: its item, and its number in its function
pub record Place : Type 0 where
  pub item : ℕ
  pub statement : ℕ

abbrev pub shifted : Place → ℕ → Place
shifted p n = record { item = p.item; statement = p.statement + n }

abbrev pub stuck : Place → ℕ → Run
stuck p r = Stuck r p.item p.statement []

abbrev pub with : Place → Outcome → (Value → Run) → Run
with p (Gives v) f = f v
with p (Fails r) f = stuck p r

abbrev pub on_number : Place → Value → (ℕ → Run) → Run
on_number p (Num n) f = f n
on_number p _ f = stuck p 0

abbrev pub on_truth : Place → Value → (Unit {0} → Run) → (Unit {0} → Run) → Run
on_truth p (Truth true) f g = f tt
on_truth p (Truth false) f g = g tt
on_truth p _ f g = stuck p 0

-- ---- variables

abbrev pub declare : Name → Value → Scopes → Scopes
declare x v [] = ((x, v) ∷ []) ∷ []
declare x v (f ∷ fs) = ((x, v) ∷ f) ∷ fs

abbrev pub set_in : Name → Value → Frame → Frame
set_in x v [] = []
set_in x v (w ∷ ws) = if bytes_eq w.0 x then (x, v) ∷ ws else w ∷ set_in x v ws

abbrev pub assign : Name → Value → Scopes → Scopes
assign x v [] = []
assign x v (f ∷ fs) = elim (in_frame f x) [ None ↦ f ∷ assign x v fs | Some w ↦ set_in x v f ∷ fs ]

abbrev pub leave : Scopes → Scopes
leave [] = []
leave (f ∷ fs) = fs

-- ---- calls

-- what the functions known so far do with arguments and a memory
abbrev pub Calls : Type 0
Calls = Name → List Value → Memory → Run

-- the arguments of a call, from left to right
abbrev pub with_args : Place → List Expr → Scopes → Memory → List Value → (List Value → Run) → Run
with_args p [] env m done f = f done
with_args p (a ∷ more) env m done f = with p (value_of a env m) (λ v. with_args p more env m (done ++ v ∷ []) f)

abbrev pub from_call : Place → Run → (Value → Run) → Run
from_call p (Falls env es) f = stuck p 0
from_call p (Returns n es) f = doing es (f (Num n))
from_call p (Stuck r i s es) f = Stuck r i s es

abbrev pub from_source : Calls → Place → Source → Scopes → Memory → (Value → Run) → Run
from_source calls p (FromValue e) env m f = with p (value_of e env m) f
from_source calls p (FromCall g args) env m f = with_args p args env m [] (λ vs. from_call p (calls g vs m) f)

-- ---- writes

abbrev pub write : Scopes → Event → Run
write env e = Falls env (e ∷ [])

abbrev pub store_in : Place → Option Block → ℕ → ℕ → ℕ → Scopes → Run
store_in p (Some (Bytes bytes)) block at n env = if nat_lt at (length bytes) then write env (WritesByte block at (n % 256)) else stuck p 2
store_in p _ block at n env = stuck p 0

abbrev pub store : Place → Memory → Value → Value → Value → Scopes → Run
store p m (Ptr block offset) (Num i) (Num n) env = store_in p (slice_get m block) block (offset + i) n env
store p m _ _ _ env = stuck p 0

abbrev pub set_cell : Place → Value → Name → Value → Scopes → Run
set_cell p (Str block) c (Num n) env = write env (WritesCell block c (HoldsNumber n))
set_cell p (Str block) c (Ptr b o) env = write env (WritesCell block c (HoldsPointer b o))
set_cell p _ c _ env = stuck p 0

-- ---- blocks and loops

-- a piece of code, by the scopes and the memory that it begins in
abbrev pub Code : Type 0
Code = Scopes → Memory → Run

abbrev pub scoped : Code → Code
scoped code env m = and_then (code ([] ∷ env) m) m (λ env' m'. fall (leave env'))

-- n more turns of a loop over x, the next one being the turn i; each is a step
abbrev pub turns : ℕ → ℕ → Name → Code → Code
turns zero i x body env m = fall env
turns (suc n) i x body env m =
    doing (Step ∷ []) (and_then (body (((x, Num i) ∷ []) ∷ env) m) m (λ env' m'. turns n (i + 1) x body (leave env') m'))

-- ---- statements

-- how many statements there are, those inside counted
abbrev mutual
  pub count_of : Stmt → ℕ
  count_of (DeclNumber x e) = 1
  count_of (DeclPointer x e) = 1
  count_of (Assign x e) = 1
  count_of (Store x i e) = 1
  count_of (SetCell x c e) = 1
  count_of (If' t s ys u ns) = 1 + count_in ys + count_in ns
  count_of (For' x b s body) = 1 + count_in body
  count_of (Return e) = 1

  pub count_in : {n : _} → Row_of-Stmt n → ℕ
  count_in end_of-Stmt = 0
  count_in (more_of-Stmt s rest) = count_of s + count_in rest

-- how many statements a list has, those inside counted
abbrev pub count_all : List Stmt → ℕ
count_all [] = 0
count_all (s ∷ rest) = count_of s + count_all rest

-- what a statement does once it is begun; each begun statement is a step
abbrev mutual
  pub does : Calls → Stmt → Place → Code
  does calls (DeclNumber x e) p env m = from_source calls p e env m (λ v. fall (declare x v env))
  does calls (DeclPointer x e) p env m = with p (value_of e env m) (λ v. fall (declare x v env))
  does calls (Assign x e) p env m = from_source calls p e env m (λ v. fall (assign x v env))
  does calls (Store x i e) p env m =
      with p (given (lookup env x)) (λ q. with p (value_of i env m) (λ j. with p (value_of e env m) (λ v. store p m q j v env)))
  does calls (SetCell x c e) p env m =
      with p (given (lookup env x)) (λ q. with p (value_of e env m) (λ v. set_cell p q c v env))
  does calls (If' t s ys u ns) p env m =
      with p (value_of t env m) (λ v. on_truth p v (λ _. scoped (does_row calls ys (shifted p 1)) env m) (λ _. scoped (does_row calls ns (shifted p (1 + count_in ys))) env m))
  does calls (For' x b s body) p env m =
      with p (given (lookup env b)) (λ v. on_number p v (λ n. turns n 0 x (does_row calls body (shifted p 1)) env m))
  does calls (Return e) p env m = with p (value_of e env m) (λ v. on_number p v (λ n. Returns n []))

  pub does_row : {n : _} → Calls → Row_of-Stmt n → Place → Code
  does_row calls end_of-Stmt p env m = fall env
  does_row calls (more_of-Stmt s rest) p env m =
      doing (Step ∷ []) (and_then (does calls s p env m) m (does_row calls rest (shifted p (count_of s))))

-- the statements of a list, in turn
abbrev pub block : Calls → List Stmt → Place → Code
block calls [] p env m = fall env
block calls (s ∷ rest) p env m =
    doing (Step ∷ []) (and_then (does calls s p env m) m (block calls rest (shifted p (count_of s))))

-- ---- functions

abbrev pub frame_of : List Param → List Value → Frame
frame_of [] vs = []
frame_of (x ∷ xs) [] = []
frame_of (x ∷ xs) (v ∷ vs) = (x.name, v) ∷ frame_of xs vs

-- a function ends by a return
abbrev pub ended : ℕ → Run → Run
ended at (Falls env es) = Stuck 0 at 0 es
ended at (Returns n es) = Returns n (es ++ Leaves ∷ [])
ended at (Stuck r i s es) = Stuck r i s es

-- a call of the function that stands at an item number
abbrev pub called : Calls → ℕ → Function → List Value → Memory → Run
called calls at f vs m =
    doing (Enters ∷ []) (ended at (block calls f.body (record { item = at; statement = 1 }) (frame_of f.params vs ∷ []) m))

abbrev pub no_calls : Calls
no_calls g vs m = Stuck 0 0 0 []

-- with one more item
abbrev pub with_item : Calls → ℕ → CItem → Calls
with_item calls at (AStruct s) g vs m = calls g vs m
with_item calls at (AFunction f) g vs m =
    let old = calls in elim (bytes_eq f.name g) [ true ↦ called old at f vs m | false ↦ old g vs m ]

abbrev pub calls_from : Calls → ℕ → List CItem → Calls
calls_from calls at [] = calls
calls_from calls at (i ∷ is) = calls_from (with_item calls at i) (at + 1) is

-- What the functions of these items do: the function of this name, called with these arguments in this memory.
abbrev pub calls_of : List CItem → Calls
calls_of = calls_from no_calls 0
