-- Runs of spelled code, from what is in range, are in range.
use Rattle.std.proofs.Common.{ℕ, zero, suc, ◌+◌, ◌%◌, ◌^◌, ◌<◌, List, [], ◌∷◌, ◌++◌, take, arith, Bool, true, false}
use Rattle.std.specs.Prelude.{Option, Some, None, slice_get, nat_lt, length, if◌then◌else◌, bytes_eq}
use Rattle.std.specs.List.{AllByRecursion}
use Rattle.std.proofs.lemmas.List.Elements.{All-from_recursion, recursion_from_All}
use Rattle.ecd_cast.specs.declared.tree.Expr.{Expr}
use Rattle.ecd_cast.specs.declared.tree.Source.{Source}
use Rattle.ecd_cast.specs.declared.tree.Source.TheVariants.{Value as FromValue, Call as FromCall}
use Rattle.ecd_cast.specs.declared.tree.Stmt.{Stmt, Row_of-Stmt, end_of-Stmt, more_of-Stmt}
use Rattle.ecd_cast.specs.declared.tree.Stmt.TheVariants.{Number as DeclNumber, Pointer as DeclPointer, Assign, Store, SetCell, If', For', Return}
use Rattle.ecd_cast.specs.declared.tree.Param.{Param}
use Rattle.ecd_cast.specs.declared.tree.Function.{Function}
use Rattle.ecd_cast.specs.declared.tree.CItem.{CItem}
use Rattle.ecd_cast.specs.declared.tree.CItem.TheVariants.{Struct as AStruct, Function as AFunction}
use Rattle.ecd_cast.specs.declared.value.Value.{Value}
use Rattle.ecd_cast.specs.declared.value.Value.TheVariants.{Number as Num, Truth, Bytes as Ptr, Struct as Str}
use Rattle.ecd_cast.specs.Memory.{Name, Memory, Block, Bytes, Cells, Event, Step, Enters, Leaves, WritesByte, after}
use Rattle.ecd_cast.specs.Expressions.{Outcome, Gives, Fails, Frame, Scopes, in_frame, lookup, given, value_of}
use Rattle.ecd_cast.specs.Meaning.{Run, Falls, Returns, Stuck, events_of, doing, and_then, fall, Place, shifted, stuck, with, on_number, on_truth, declare, set_in, assign, leave, Calls, with_args, from_call, from_source, write, store_in, store, set_cell, Code, scoped, turns, count_of, count_in, does, does_row, block, ended, called, no_calls, with_item, calls_from, calls_of, frame_of}
use Rattle.ecd_cast.specs.Spelling.{AreSpelled, IsSpelledSource, IsSpelledStmt, IsSpelledRow, IsSpelledBlock, AreSpelledItems}
use Rattle.ecd_csafe.specs.Ranges.{IsNumber, IsValueInRange, IsMemoryInRange, IsEventInRange, EndsInRange, CallsInRange}
use Rattle.ecd_csafe.proofs.InRange.{AreIn, ScopesIn, OutcomeIn, lookup_in, given_in, value_in, WritesIn, writes_then, after_in, first_in}

abbrev IsIn : Run → Type 0
IsIn (Falls env es) = ScopesIn env × WritesIn es
IsIn (Returns n es) = IsNumber n × WritesIn es
IsIn (Stuck r i s es) = WritesIn es

record RunIn (r : Run) : Type 0 where
  pub is : IsIn r

abbrev ValuesIn : List Value → Type 0
ValuesIn vs = AllByRecursion IsValueInRange vs

-- ---- scopes

declare_in : (x : Name) (v : Value) (env : Scopes) → IsValueInRange v → ScopesIn env → ScopesIn (declare x v env)
declare_in x v [] h k = ((h, tt), tt)
declare_in x v (f ∷ fs) h k = ((h, k.0), k.1)

set_in_frame : (x : Name) (v : Value) (f : Frame) → IsValueInRange v → AreIn f → AreIn (set_in x v f)
set_in_frame x v [] h k = tt
set_in_frame x v (w ∷ ws) h k = by_test (bytes_eq w.0 x) (set_in_frame x v ws h k.1)
  where
    by_test : (t : Bool) → AreIn (set_in x v ws) → AreIn (if t then (x, v) ∷ ws else w ∷ set_in x v ws)
    by_test true l = (h, k.1)
    by_test false l = (k.0, l)

assign_in : (x : Name) (v : Value) (env : Scopes) → IsValueInRange v → ScopesIn env → ScopesIn (assign x v env)
assign_in x v [] h k = tt
assign_in x v (f ∷ fs) h k = by_frame (in_frame f x) (assign_in x v fs h k.1)
  where
    by_frame : (o : Option Value) → ScopesIn (assign x v fs) → ScopesIn (elim o [ None ↦ f ∷ assign x v fs | Some w ↦ set_in x v f ∷ fs ])
    by_frame None l = (k.0, l)
    by_frame (Some w) l = (set_in_frame x v f h k.0, k.1)

leave_in : (env : Scopes) → ScopesIn env → ScopesIn (leave env)
leave_in [] h = tt
leave_in (f ∷ fs) h = h.1

-- ---- runs

stuck_in : (p : Place) (r : ℕ) → RunIn (stuck p r)
stuck_in p r = record { is = tt }

fall_in : (env : Scopes) → ScopesIn env → RunIn (fall env)
fall_in env h = record { is = (h, tt) }

doing_in : (es : List Event) (r : Run) → WritesIn es → RunIn r → RunIn (doing es r)
doing_in es (Falls env ds) h k = record { is = (k.is.0, writes_then es ds h k.is.1) }
doing_in es (Returns n ds) h k = record { is = (k.is.0, writes_then es ds h k.is.1) }
doing_in es (Stuck r i s ds) h k = record { is = writes_then es ds h k.is }

then_in : (r : Run) (m : Memory) (f : Scopes → Memory → Run) → IsMemoryInRange m → RunIn r → ((env : Scopes) (m' : Memory) → ScopesIn env → IsMemoryInRange m' → RunIn (f env m')) → RunIn (and_then r m f)
then_in (Falls env es) m f holds h k = doing_in es (f env (after es m)) h.is.1 (k env (after es m) h.is.0 (after_in es m h.is.1 holds))
then_in (Returns n es) m f holds h k = h
then_in (Stuck r i s es) m f holds h k = h

with_in : (p : Place) (o : Outcome) (f : Value → Run) → OutcomeIn o → ((v : Value) → IsValueInRange v → RunIn (f v)) → RunIn (with p o f)
with_in p (Gives v) f h k = k v h
with_in p (Fails r) f h k = stuck_in p r

number_in : (p : Place) (v : Value) (f : ℕ → Run) → IsValueInRange v → ((n : ℕ) → IsNumber n → RunIn (f n)) → RunIn (on_number p v f)
number_in p (Num n) f h k = k n h
number_in p (Truth b) f h k = stuck_in p 0
number_in p (Ptr b o) f h k = stuck_in p 0
number_in p (Str b) f h k = stuck_in p 0

truth_in : (p : Place) (v : Value) (f g : Unit {0} → Run) → RunIn (f tt) → RunIn (g tt) → RunIn (on_truth p v f g)
truth_in p (Truth true) f g h k = h
truth_in p (Truth false) f g h k = k
truth_in p (Num n) f g h k = stuck_in p 0
truth_in p (Ptr b o) f g h k = stuck_in p 0
truth_in p (Str b) f g h k = stuck_in p 0

call_in : (p : Place) (r : Run) (f : Value → Run) → RunIn r → ((v : Value) → IsValueInRange v → RunIn (f v)) → RunIn (from_call p r f)
call_in p (Falls env es) f h k = stuck_in p 0
call_in p (Returns n es) f h k = doing_in es (f (Num n)) h.is.1 (k (Num n) h.is.0)
call_in p (Stuck r i s es) f h k = h

-- ---- writes

stored_in : (p : Place) (o : Option Block) (b at_ n : ℕ) (env : Scopes) → ScopesIn env → RunIn (store_in p o b at_ n env)
stored_in p (Some (Bytes bytes)) b at_ n env h = by_test (nat_lt at_ (length bytes))
  where
    by_test : (t : Bool) → RunIn (if t then write env (WritesByte b at_ (n % 256)) else stuck p 2)
    by_test true = let below : n % 256 < 256 = omega arith in record { is = (h, (below, tt)) }
    by_test false = stuck_in p 2
stored_in p (Some (Cells cells)) b at_ n env h = stuck_in p 0
stored_in p None b at_ n env h = stuck_in p 0

byte_in_range : (p : Place) (m : Memory) (q j v : Value) (env : Scopes) → ScopesIn env → RunIn (store p m q j v env)
byte_in_range p m (Ptr b o) (Num i) (Num n) env h = stored_in p (slice_get m b) b (o + i) n env h
byte_in_range p m (Ptr b o) (Num i) (Truth t) env h = stuck_in p 0
byte_in_range p m (Ptr b o) (Num i) (Ptr c k) env h = stuck_in p 0
byte_in_range p m (Ptr b o) (Num i) (Str c) env h = stuck_in p 0
byte_in_range p m (Ptr b o) (Truth t) v env h = stuck_in p 0
byte_in_range p m (Ptr b o) (Ptr c k) v env h = stuck_in p 0
byte_in_range p m (Ptr b o) (Str c) v env h = stuck_in p 0
byte_in_range p m (Num n) j v env h = stuck_in p 0
byte_in_range p m (Truth t) j v env h = stuck_in p 0
byte_in_range p m (Str b) j v env h = stuck_in p 0

cell_in_range : (p : Place) (q : Value) (c : Name) (v : Value) (env : Scopes) → IsValueInRange v → ScopesIn env → RunIn (set_cell p q c v env)
cell_in_range p (Str b) c (Num n) env h k = record { is = (k, (h, tt)) }
cell_in_range p (Str b) c (Ptr d o) env h k = record { is = (k, (tt, tt)) }
cell_in_range p (Str b) c (Truth t) env h k = stuck_in p 0
cell_in_range p (Str b) c (Str d) env h k = stuck_in p 0
cell_in_range p (Num n) c v env h k = stuck_in p 0
cell_in_range p (Truth t) c v env h k = stuck_in p 0
cell_in_range p (Ptr b o) c v env h k = stuck_in p 0

-- ---- blocks and loops

-- code that is in range where it begins in range
abbrev CodeIn : Code → Type 0
CodeIn code = (env : Scopes) (m : Memory) → ScopesIn env → IsMemoryInRange m → RunIn (code env m)

scoped_in : (code : Code) → CodeIn code → CodeIn (scoped code)
scoped_in code h env m known holds = then_in (code ([] ∷ env) m) m (λ env' m'. fall (leave env')) holds (h ([] ∷ env) m (tt, known) holds) (λ e n inside kept. fall_in (leave e) (leave_in e inside))

turns_in : (n i : ℕ) (x : Name) (code : Code) → i + n < 2 ^ 64 → CodeIn code → CodeIn (turns n i x code)
turns_in zero i x code few h env m known holds = fall_in env known
turns_in (suc n) i x code few h env m known holds =
    let here : i < 2 ^ 64 = omega (arith, few) in
    let more : i + 1 + n < 2 ^ 64 = omega (arith, few) in
    doing_in (Step ∷ []) (and_then (code (((x, Num i) ∷ []) ∷ env) m) m (λ env' m'. turns n (i + 1) x code (leave env') m')) (tt, tt)
    (then_in (code (((x, Num i) ∷ []) ∷ env) m) m (λ env' m'. turns n (i + 1) x code (leave env') m') holds (h (((x, Num i) ∷ []) ∷ env) m ((here, tt), known) holds) (λ e k inside kept. turns_in n (i + 1) x code more h (leave e) k (leave_in e inside) kept))

-- ---- arguments

values_push : (vs : List Value) (v : Value) → ValuesIn vs → IsValueInRange v → ValuesIn (vs ++ v ∷ [])
values_push [] v h k = (k, tt)
values_push (w ∷ vs) v h k = (h.0, values_push vs v h.1 k)

args_in : (p : Place) (args : List Expr) (env : Scopes) (m : Memory) (done : List Value) (f : List Value → Run) → AreSpelled args → ScopesIn env → IsMemoryInRange m → ValuesIn done →
    ((vs : List Value) → ValuesIn vs → RunIn (f vs)) → RunIn (with_args p args env m done f)
args_in p [] env m done f s known holds h k = k done h
args_in p (a ∷ more) env m done f s known holds h k =
    with_in p (value_of a env m) (λ v. with_args p more env m (done ++ v ∷ []) f) (value_in env m known holds a s.0) (λ v hv. args_in p more env m (done ++ v ∷ []) f s.1 known holds (values_push done v h hv) k)

-- ---- statements

module _ (calls : Calls) (inside : (g : Name) (vs : List Value) (m : Memory) → ValuesIn vs → IsMemoryInRange m → RunIn (calls g vs m)) where
  source_in : (p : Place) (s : Source) (env : Scopes) (m : Memory) (f : Value → Scopes) → IsSpelledSource s → ScopesIn env → IsMemoryInRange m → ((v : Value) → IsValueInRange v → ScopesIn (f v)) → RunIn (from_source calls p s env m (λ v. fall (f v)))
  source_in p (FromValue e) env m f s known holds h = with_in p (value_of e env m) (λ v. fall (f v)) (value_in env m known holds e s) (λ v hv. fall_in (f v) (h v hv))
  source_in p (FromCall g args) env m f s known holds h =
      args_in p args env m [] (λ vs. from_call p (calls g vs m) (λ v. fall (f v))) s.2 known holds tt (λ vs hvs. call_in p (calls g vs m) (λ v. fall (f v)) (inside g vs m hvs holds) (λ v hv. fall_in (f v) (h v hv)))

  mutual
    stmt_in : (s : Stmt) (p : Place) → IsSpelledStmt s → CodeIn (does calls s p)
    stmt_in (DeclNumber x e) p s env m known holds = source_in p e env m (λ v. declare x v env) s.1 known holds (λ v h. declare_in x v env h known)
    stmt_in (DeclPointer x e) p s env m known holds = with_in p (value_of e env m) (λ v. fall (declare x v env)) (value_in env m known holds e s.1) (λ v h. fall_in (declare x v env) (declare_in x v env h known))
    stmt_in (Assign x e) p s env m known holds = source_in p e env m (λ v. assign x v env) s.1 known holds (λ v h. assign_in x v env h known)
    stmt_in (Store x i e) p s env m known holds =
        with_in p (given (lookup env x)) _ (given_in (lookup env x) (lookup_in env x known)) (λ q hq. with_in p (value_of i env m) _ (value_in env m known holds i s.1) (λ j hj.
        with_in p (value_of e env m) _ (value_in env m known holds e s.2) (λ v hv. byte_in_range p m q j v env known)))
    stmt_in (SetCell x c e) p s env m known holds =
        with_in p (given (lookup env x)) _ (given_in (lookup env x) (lookup_in env x known)) (λ q hq. with_in p (value_of e env m) _ (value_in env m known holds e s.2) (λ v hv. cell_in_range p q c v env hv known))
    stmt_in (If' t n ys u ns) p s env m known holds =
        with_in p (value_of t env m) _ (value_in env m known holds t s.0) (λ v hv. truth_in p v _ _
        (scoped_in (does_row calls ys (shifted p 1)) (row_in ys (shifted p 1) s.1) env m known holds)
        (scoped_in (does_row calls ns (shifted p (1 + count_in ys))) (row_in ns (shifted p (1 + count_in ys)) s.2) env m known holds))
    stmt_in (For' x b n body) p s env m known holds =
        with_in p (given (lookup env b)) _ (given_in (lookup env b) (lookup_in env b known)) (λ v hv. number_in p v _ hv (λ k hk.
        let few : 0 + k < 2 ^ 64 = omega (arith, hk) in turns_in k 0 x (does_row calls body (shifted p 1)) few (row_in body (shifted p 1) s.2) env m known holds))
    stmt_in (Return e) p s env m known holds = with_in p (value_of e env m) _ (value_in env m known holds e s) (λ v hv. number_in p v (λ n. Returns n []) hv (λ n hn. record { is = (hn, tt) }))

    row_in : {n : _} (r : Row_of-Stmt n) (p : Place) → IsSpelledRow r → CodeIn (does_row calls r p)
    row_in end_of-Stmt p s env m known holds = fall_in env known
    row_in (more_of-Stmt a rest) p s env m known holds =
        doing_in (Step ∷ []) _ (tt, tt) (then_in (does calls a p env m) m (does_row calls rest (shifted p (count_of a))) holds (stmt_in a p s.0 env m known holds) (row_in rest (shifted p (count_of a)) s.1))

  block_in : (ss : List Stmt) (p : Place) → IsSpelledBlock ss → CodeIn (block calls ss p)
  block_in [] p s env m known holds = fall_in env known
  block_in (a ∷ rest) p s env m known holds =
      doing_in (Step ∷ []) _ (tt, tt) (then_in (does calls a p env m) m (block calls rest (shifted p (count_of a))) holds (stmt_in a p s.0 env m known holds) (block_in rest (shifted p (count_of a)) s.1))

-- ---- functions

frame_in : (params : List Param) (vs : List Value) → ValuesIn vs → AreIn (frame_of params vs)
frame_in [] vs h = tt
frame_in (q ∷ params) [] h = tt
frame_in (q ∷ params) (v ∷ vs) h = (h.0, frame_in params vs h.1)

-- a call, which does not fall through
record CallIn (r : Run) : Type 0 where
  pub ends : EndsInRange r
  pub writes : WritesIn (events_of r)

call_runs : (r : Run) → CallIn r → RunIn r
call_runs (Falls env es) h = absurd h.ends
call_runs (Returns n es) h = record { is = (h.ends, h.writes) }
call_runs (Stuck r i s es) h = record { is = h.writes }

entered_in : (at_ : ℕ) (r : Run) → RunIn r → CallIn (doing (Enters ∷ []) (ended at_ r))
entered_in at_ (Falls env es) h = record { ends = tt; writes = (tt, h.is.1) }
entered_in at_ (Returns n es) h = record { ends = h.is.0; writes = (tt, writes_then es (Leaves ∷ []) h.is.1 (tt, tt)) }
entered_in at_ (Stuck r i s es) h = record { ends = tt; writes = (tt, h.is) }

-- calls in range
abbrev AreCallsIn : Calls → Type 0
AreCallsIn calls = (g : Name) (vs : List Value) (m : Memory) → ValuesIn vs → IsMemoryInRange m → CallIn (calls g vs m)

function_in : (calls : Calls) (at_ : ℕ) (f : Function) → AreCallsIn calls → IsSpelledBlock f.body → (vs : List Value) (m : Memory) → ValuesIn vs → IsMemoryInRange m → CallIn (called calls at_ f vs m)
function_in calls at_ f inside s vs m h holds =
    entered_in at_ _ (block_in calls (λ g ws n hws kept. call_runs (calls g ws n) (inside g ws n hws kept)) f.body (record { item = at_; statement = 1 }) s (frame_of f.params vs ∷ []) m (frame_in f.params vs h, tt) holds)

item_in : (calls : Calls) (at_ : ℕ) (f : Function) → AreCallsIn calls → IsSpelledBlock f.body → AreCallsIn (with_item calls at_ (AFunction f))
item_in calls at_ f inside s g vs m h holds = by_test (bytes_eq f.name g)
  where
    by_test : (t : Bool) → CallIn (elim t [ true ↦ called calls at_ f vs m | false ↦ calls g vs m ])
    by_test true = function_in calls at_ f inside s vs m h holds
    by_test false = inside g vs m h holds

from_in : (calls : Calls) (at_ : ℕ) (items : List CItem) → AreSpelledItems items → AreCallsIn calls → AreCallsIn (calls_from calls at_ items)
from_in calls at_ [] s inside = inside
from_in calls at_ (AStruct d ∷ is) s inside = from_in (with_item calls at_ (AStruct d)) (at_ + 1) is s.1 inside
from_in calls at_ (AFunction f ∷ is) s inside = from_in (with_item calls at_ (AFunction f)) (at_ + 1) is s.1 (item_in calls at_ f inside s.0.3)

none_in : AreCallsIn no_calls
none_in g vs m h holds = record { ends = tt; writes = tt }

pub calls_in_range : CallsInRange
calls_in_range p g vs m spelled values holds =
    let r : Run = calls_of p.items g vs m in
    let c = from_in no_calls 0 p.items spelled.items_are none_in g vs m (recursion_from_All IsValueInRange vs values) holds in
    record {
      ends = c.ends;
      writes = All-from_recursion IsEventInRange (events_of r) c.writes;
      keeps = λ n. after_in (take n (events_of r)) m (first_in n (events_of r) c.writes) holds;
    }
