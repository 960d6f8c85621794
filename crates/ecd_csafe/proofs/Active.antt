-- How many calls are active at once.
use Rattle.std.proofs.Common.{◌≡◌, ℕ, zero, suc, ◌+◌, ◌-◌, ◌≤◌, List, [], ◌∷◌, ◌++◌, sym, subst, arith, append_assoc, append-nil, Bool, true, false}
use Rattle.std.specs.Prelude.{max, if◌then◌else◌, bytes_eq}
use Rattle.ecd_cast.specs.declared.tree.Expr.{Expr}
use Rattle.ecd_cast.specs.declared.tree.Source.{Source}
use Rattle.ecd_cast.specs.declared.tree.Source.TheVariants.{Value as FromValue, Call as FromCall}
use Rattle.ecd_cast.specs.declared.tree.Stmt.{Stmt, Row_of-Stmt, end_of-Stmt, more_of-Stmt}
use Rattle.ecd_cast.specs.declared.tree.Stmt.TheVariants.{Number as DeclNumber, Pointer as DeclPointer, Assign, Store, SetCell, If', For', Return}
use Rattle.ecd_cast.specs.declared.tree.Function.{Function}
use Rattle.ecd_cast.specs.declared.tree.CItem.{CItem}
use Rattle.ecd_cast.specs.declared.tree.CItem.TheVariants.{Struct as AStruct, Function as AFunction}
use Rattle.ecd_cast.specs.Memory.{Name, Memory, Block, Bytes, Cells, Event, Step, Enters, Leaves, WritesByte, after, most_active}
use Rattle.ecd_cast.specs.declared.value.Value.{Value}
use Rattle.ecd_cast.specs.declared.value.Value.TheVariants.{Number as Num, Truth, Bytes as Ptr, Struct as Str}
use Rattle.std.specs.Prelude.{Option, Some, None, slice_get, nat_lt, length, ◌%◌}
use Rattle.ecd_cast.specs.Expressions.{Outcome, Gives, Fails, Scopes, lookup, given, value_of}
use Rattle.ecd_cast.specs.Meaning.{Run, Falls, Returns, Stuck, events_of, doing, and_then, fall, Place, shifted, stuck, with, on_number, on_truth, declare, assign, leave, Calls, with_args, from_call, from_source, write, store_in, store, set_cell, Code, scoped, turns, count_of, count_in, does, does_row, block, ended, called, no_calls, with_item, calls_from, calls_of, frame_of}
use Rattle.ecd_cast.specs.Validity.{Chains, source_chain, chain_of, chain_in, block_chain, with_chain, heaviest_from, call_depth_of}
use Rattle.ecd_csafe.specs.Safety.{ActiveCalls}

-- events that end with as many active calls as before, and never d more
record Low (d : ℕ) (es : List Event) : Type 0 where
  pub low : (now bound : ℕ) (ds : List Event) → now + d ≤ bound → most_active now ds ≤ bound → most_active now (es ++ ds) ≤ bound

-- events during which there are never d more
record EndsLow (d : ℕ) (es : List Event) : Type 0 where
  pub low : (now bound : ℕ) → now + d ≤ bound → most_active now es ≤ bound

abbrev IsBounded : ℕ → Run → Type 0
IsBounded d (Falls env es) = Low d es
IsBounded d (Returns n es) = Low d es
IsBounded d (Stuck s i t es) = EndsLow d es

record Bounded (d : ℕ) (r : Run) : Type 0 where
  pub is : IsBounded d r

falls_low : (d : ℕ) (env : Scopes) (es : List Event) → Low d es → Bounded d (Falls env es)
falls_low d env es h = record { is = h }

-- ---- lists

low_nothing : (d : ℕ) → Low d []
low_nothing d = record { low = λ now bound ds h k. k }

low_then : (d : ℕ) (a b : List Event) → Low d a → Low d b → Low d (a ++ b)
low_then d a b h k = record { low = λ now bound ds le l. subst (λ (es : List Event). most_active now es ≤ bound) (sym (append_assoc a b ds)) (h.low now bound (b ++ ds) le (k.low now bound ds le l)) }

low_ends : (d : ℕ) (a b : List Event) → Low d a → EndsLow d b → EndsLow d (a ++ b)
low_ends d a b h k = record { low = λ now bound le. h.low now bound b le (k.low now bound le) }

low_more : (c d : ℕ) (es : List Event) → c ≤ d → Low c es → Low d es
low_more c d es le h = record { low = λ now bound ds more k. h.low now bound ds (omega (arith, le, more)) k }

ends_more : (c d : ℕ) (es : List Event) → c ≤ d → EndsLow c es → EndsLow d es
ends_more c d es le h = record { low = λ now bound more. h.low now bound (omega (arith, le, more)) }

low_step : (d : ℕ) → Low d (Step ∷ [])
low_step d = record { low = λ now bound ds h k. k }

low_byte : (d b o v : ℕ) → Low d (WritesByte b o v ∷ [])
low_byte d b o v = record { low = λ now bound ds h k. k }

-- ---- runs

stuck_low : (d : ℕ) (p : Place) (r : ℕ) → Bounded d (stuck p r)
stuck_low d p r = record { is = record { low = λ now bound le. omega (arith, le) } }

fall_low : (d : ℕ) (env : Scopes) → Bounded d (fall env)
fall_low d env = record { is = low_nothing d }

bounded_more : (c d : ℕ) (r : Run) → c ≤ d → Bounded c r → Bounded d r
bounded_more c d (Falls env es) le h = record { is = low_more c d es le h.is }
bounded_more c d (Returns n es) le h = record { is = low_more c d es le h.is }
bounded_more c d (Stuck s i t es) le h = record { is = ends_more c d es le h.is }

doing_low : (d : ℕ) (es : List Event) (r : Run) → Low d es → Bounded d r → Bounded d (doing es r)
doing_low d es (Falls env ds) h k = record { is = low_then d es ds h k.is }
doing_low d es (Returns n ds) h k = record { is = low_then d es ds h k.is }
doing_low d es (Stuck s i t ds) h k = record { is = low_ends d es ds h k.is }

then_low : (d : ℕ) (r : Run) (m : Memory) (f : Scopes → Memory → Run) → Bounded d r → ((env : Scopes) (m' : Memory) → Bounded d (f env m')) → Bounded d (and_then r m f)
then_low d (Falls env es) m f h k = doing_low d es (f env (after es m)) h.is (k env (after es m))
then_low d (Returns n es) m f h k = h
then_low d (Stuck s i t es) m f h k = h

with_low : (d : ℕ) (p : Place) (o : Outcome) (f : Value → Run) → ((v : Value) → Bounded d (f v)) → Bounded d (with p o f)
with_low d p (Gives v) f h = h v
with_low d p (Fails r) f h = stuck_low d p r

number_low : (d : ℕ) (p : Place) (v : Value) (f : ℕ → Run) → ((n : ℕ) → Bounded d (f n)) → Bounded d (on_number p v f)
number_low d p (Num n) f h = h n
number_low d p (Truth b) f h = stuck_low d p 0
number_low d p (Ptr b o) f h = stuck_low d p 0
number_low d p (Str b) f h = stuck_low d p 0

truth_low : (d : ℕ) (p : Place) (v : Value) (f g : Unit {0} → Run) → Bounded d (f tt) → Bounded d (g tt) → Bounded d (on_truth p v f g)
truth_low d p (Truth true) f g h k = h
truth_low d p (Truth false) f g h k = k
truth_low d p (Num n) f g h k = stuck_low d p 0
truth_low d p (Ptr b o) f g h k = stuck_low d p 0
truth_low d p (Str b) f g h k = stuck_low d p 0

args_low : (d : ℕ) (p : Place) (args : List Expr) (env : Scopes) (m : Memory) (done : List Value) (f : List Value → Run) → ((vs : List Value) → Bounded d (f vs)) → Bounded d (with_args p args env m done f)
args_low d p [] env m done f h = h done
args_low d p (a ∷ more) env m done f h = with_low d p (value_of a env m) (λ v. with_args p more env m (done ++ v ∷ []) f) (λ v. args_low d p more env m (done ++ v ∷ []) f h)

call_low : (d : ℕ) (p : Place) (r : Run) (f : Value → Run) → Bounded d r → ((v : Value) → Bounded d (f v)) → Bounded d (from_call p r f)
call_low d p (Falls env es) f h k = stuck_low d p 0
call_low d p (Returns n es) f h k = doing_low d es (f (Num n)) h.is (k (Num n))
call_low d p (Stuck s i t es) f h k = h

store_in_low : (d : ℕ) (p : Place) (o : Option Block) (b at_ n : ℕ) (env : Scopes) → Bounded d (store_in p o b at_ n env)
store_in_low d p (Some (Bytes bytes)) b at_ n env = by_test (nat_lt at_ (length bytes))
  where
    by_test : (t : Bool) → Bounded d (if t then write env (WritesByte b at_ (n % 256)) else stuck p 2)
    by_test true = record { is = low_byte d b at_ (n % 256) }
    by_test false = stuck_low d p 2
store_in_low d p (Some (Cells cells)) b at_ n env = stuck_low d p 0
store_in_low d p None b at_ n env = stuck_low d p 0

store_low : (d : ℕ) (p : Place) (m : Memory) (q j v : Value) (env : Scopes) → Bounded d (store p m q j v env)
store_low d p m (Ptr b o) (Num i) (Num n) env = store_in_low d p (slice_get m b) b (o + i) n env
store_low d p m (Ptr b o) (Num i) (Truth t) env = stuck_low d p 0
store_low d p m (Ptr b o) (Num i) (Ptr c k) env = stuck_low d p 0
store_low d p m (Ptr b o) (Num i) (Str c) env = stuck_low d p 0
store_low d p m (Ptr b o) (Truth t) v env = stuck_low d p 0
store_low d p m (Ptr b o) (Ptr c k) v env = stuck_low d p 0
store_low d p m (Ptr b o) (Str c) v env = stuck_low d p 0
store_low d p m (Num n) j v env = stuck_low d p 0
store_low d p m (Truth t) j v env = stuck_low d p 0
store_low d p m (Str b) j v env = stuck_low d p 0

cell_low : (d : ℕ) (p : Place) (q : Value) (c : Name) (v : Value) (env : Scopes) → Bounded d (set_cell p q c v env)
cell_low d p (Str b) c (Num n) env = record { is = record { low = λ now bound ds h k. k } }
cell_low d p (Str b) c (Ptr k o) env = record { is = record { low = λ now bound ds h k. k } }
cell_low d p (Str b) c (Truth t) env = stuck_low d p 0
cell_low d p (Str b) c (Str k) env = stuck_low d p 0
cell_low d p (Num n) c v env = stuck_low d p 0
cell_low d p (Truth t) c v env = stuck_low d p 0
cell_low d p (Ptr b o) c v env = stuck_low d p 0

scoped_low : (d : ℕ) (code : Code) (env : Scopes) (m : Memory) → ((e : Scopes) (n : Memory) → Bounded d (code e n)) → Bounded d (scoped code env m)
scoped_low d code env m h = then_low d (code ([] ∷ env) m) m (λ env' m'. fall (leave env')) (h ([] ∷ env) m) (λ e n. fall_low d (leave e))

turns_low : (d : ℕ) (n i : ℕ) (x : Name) (code : Code) (env : Scopes) (m : Memory) → ((e : Scopes) (k : Memory) → Bounded d (code e k)) → Bounded d (turns n i x code env m)
turns_low d zero i x code env m h = fall_low d env
turns_low d (suc n) i x code env m h =
    doing_low d (Step ∷ []) (and_then (code (((x, Num i) ∷ []) ∷ env) m) m (λ env' m'. turns n (i + 1) x code (leave env') m')) (low_step d)
    (then_low d (code (((x, Num i) ∷ []) ∷ env) m) m (λ env' m'. turns n (i + 1) x code (leave env') m') (h (((x, Num i) ∷ []) ∷ env) m) (λ e k. turns_low d n (i + 1) x code (leave e) k h))

-- ---- statements, by the chains of the functions that they call

module _ (calls : Calls) (chains : Chains) (known : (g : Name) (vs : List Value) (m : Memory) → Bounded (chains g) (calls g vs m)) where
  source_low : (p : Place) (s : Source) (env : Scopes) (m : Memory) (f : Value → Scopes) → Bounded (source_chain chains s) (from_source calls p s env m (λ v. fall (f v)))
  source_low p (FromValue e) env m f = with_low 0 p (value_of e env m) (λ v. fall (f v)) (λ v. fall_low 0 (f v))
  source_low p (FromCall g args) env m f =
      args_low (chains g) p args env m [] (λ vs. from_call p (calls g vs m) (λ v. fall (f v))) (λ vs. call_low (chains g) p (calls g vs m) (λ v. fall (f v)) (known g vs m) (λ v. fall_low (chains g) (f v)))

  mutual
    stmt_low : (s : Stmt) (p : Place) (env : Scopes) (m : Memory) → Bounded (chain_of chains s) (does calls s p env m)
    stmt_low (DeclNumber x e) p env m = source_low p e env m (λ v. declare x v env)
    stmt_low (DeclPointer x e) p env m = with_low 0 p (value_of e env m) (λ v. fall (declare x v env)) (λ v. fall_low 0 (declare x v env))
    stmt_low (Assign x e) p env m = source_low p e env m (λ v. assign x v env)
    stmt_low (Store x i e) p env m =
        with_low 0 p (given (lookup env x)) _ (λ q. with_low 0 p (value_of i env m) _ (λ j. with_low 0 p (value_of e env m) _ (λ v. store_low 0 p m q j v env)))
    stmt_low (SetCell x c e) p env m = with_low 0 p (given (lookup env x)) _ (λ q. with_low 0 p (value_of e env m) _ (λ v. cell_low 0 p q c v env))
    stmt_low (If' t s ys u ns) p env m =
        let most : ℕ = max (chain_in chains ys) (chain_in chains ns) in
        let first : chain_in chains ys ≤ most = omega arith in
        let second : chain_in chains ns ≤ most = omega arith in
        with_low most p (value_of t env m) _ (λ v. truth_low most p v _ _
        (scoped_low most (does_row calls ys (shifted p 1)) env m (λ e k. bounded_more (chain_in chains ys) most _ first (row_low ys (shifted p 1) e k)))
        (scoped_low most (does_row calls ns (shifted p (1 + count_in ys))) env m (λ e k. bounded_more (chain_in chains ns) most _ second (row_low ns (shifted p (1 + count_in ys)) e k))))
    stmt_low (For' x b s body) p env m =
        with_low (chain_in chains body) p (given (lookup env b)) _ (λ v. number_low (chain_in chains body) p v _ (λ n. turns_low (chain_in chains body) n 0 x (does_row calls body (shifted p 1)) env m (λ e k. row_low body (shifted p 1) e k)))
    stmt_low (Return e) p env m = with_low 0 p (value_of e env m) _ (λ v. number_low 0 p v (λ n. Returns n []) (λ n. record { is = low_nothing 0 }))

    row_low : {n : _} (r : Row_of-Stmt n) (p : Place) (env : Scopes) (m : Memory) → Bounded (chain_in chains r) (does_row calls r p env m)
    row_low end_of-Stmt p env m = fall_low 0 env
    row_low (more_of-Stmt s rest) p env m =
        let most : ℕ = max (chain_of chains s) (chain_in chains rest) in
        let first : chain_of chains s ≤ most = omega arith in
        let second : chain_in chains rest ≤ most = omega arith in
        doing_low most (Step ∷ []) _ (low_step most) (then_low most (does calls s p env m) m (does_row calls rest (shifted p (count_of s))) (bounded_more (chain_of chains s) most _ first (stmt_low s p env m)) (λ e k. bounded_more (chain_in chains rest) most _ second (row_low rest (shifted p (count_of s)) e k)))

  block_low : (ss : List Stmt) (p : Place) (env : Scopes) (m : Memory) → Bounded (block_chain chains ss) (block calls ss p env m)
  block_low [] p env m = fall_low 0 env
  block_low (s ∷ rest) p env m =
      let most : ℕ = max (chain_of chains s) (block_chain chains rest) in
      let first : chain_of chains s ≤ most = omega arith in
      let second : block_chain chains rest ≤ most = omega arith in
      doing_low most (Step ∷ []) _ (low_step most) (then_low most (does calls s p env m) m (block calls rest (shifted p (count_of s))) (bounded_more (chain_of chains s) most _ first (stmt_low s p env m)) (λ e k. bounded_more (block_chain chains rest) most _ second (block_low rest (shifted p (count_of s)) e k)))

-- ---- functions

entered_low : (d at_ : ℕ) (r : Run) → Bounded d r → Bounded (1 + d) (doing (Enters ∷ []) (ended at_ r))
entered_low d at_ (Falls env es) h = record { is = record { low = λ now bound le. let k = h.is.low (now + 1) bound [] (omega (arith, le)) (omega (arith, le)) in subst (λ (l : List Event). most_active (now + 1) l ≤ bound) (append-nil es) k } }
entered_low d at_ (Returns n es) h = record {
  is = record {
    low = λ now bound ds le k.
        let back : now + 1 - 1 ≡ now = omega arith in
        let behind : most_active (now + 1 - 1) ds ≤ bound = subst (λ (j : ℕ). most_active j ds ≤ bound) (sym back) k in
        let inside : most_active (now + 1) (Leaves ∷ ds) ≤ bound = omega (arith, le, behind) in
        subst (λ (l : List Event). most_active (now + 1) l ≤ bound) (sym (append_assoc es (Leaves ∷ []) ds)) (h.is.low (now + 1) bound (Leaves ∷ ds) (omega (arith, le)) inside);
  };
}
entered_low d at_ (Stuck s i t es) h = record { is = record { low = λ now bound le. h.is.low (now + 1) bound (omega (arith, le)) } }

module _ (calls : Calls) (chains : Chains) (known : (g : Name) (vs : List Value) (m : Memory) → Bounded (chains g) (calls g vs m)) where
  function_low : (at_ : ℕ) (f : Function) (vs : List Value) (m : Memory) → Bounded (1 + block_chain chains f.body) (called calls at_ f vs m)
  function_low at_ f vs m = entered_low (block_chain chains f.body) at_ _ (block_low calls chains known f.body (record { item = at_; statement = 1 }) (frame_of f.params vs ∷ []) m)

  item_low : (at_ : ℕ) (f : Function) (g : Name) (vs : List Value) (m : Memory) → Bounded (with_chain f.name (1 + block_chain chains f.body) chains g) (with_item calls at_ (AFunction f) g vs m)
  item_low at_ f g vs m = by_test (bytes_eq f.name g)
    where
      by_test : (b : Bool) → Bounded (if b then 1 + block_chain chains f.body else chains g) (elim b [ true ↦ called calls at_ f vs m | false ↦ calls g vs m ])
      by_test true = function_low at_ f vs m
      by_test false = known g vs m

from_low : (calls : Calls) (chains : Chains) (at_ most : ℕ) (items : List CItem) → ((g : Name) (vs : List Value) (m : Memory) → Bounded (chains g) (calls g vs m)) → ((g : Name) → chains g ≤ most) →
    (g : Name) (vs : List Value) (m : Memory) → Bounded (heaviest_from (λ f. 1) chains most items) (calls_from calls at_ items g vs m)
from_low calls chains at_ most [] known le g vs m = bounded_more (chains g) most _ (le g) (known g vs m)
from_low calls chains at_ most (AStruct s ∷ is) known le g vs m = from_low (with_item calls at_ (AStruct s)) chains (at_ + 1) most is known le g vs m
from_low calls chains at_ most (AFunction f ∷ is) known le g vs m =
    from_low (with_item calls at_ (AFunction f)) (with_chain f.name (1 + block_chain chains f.body) chains) (at_ + 1) (max most (1 + block_chain chains f.body)) is (item_low calls chains known at_ f) (λ h. by_test h (bytes_eq f.name h)) g vs m
  where
    by_test : (h : Name) (b : Bool) → (if b then 1 + block_chain chains f.body else chains h) ≤ max most (1 + block_chain chains f.body)
    by_test h true = omega arith
    by_test h false = let k = le h in omega (arith, k)

at_most : (d : ℕ) (r : Run) → Bounded d r → most_active 0 (events_of r) ≤ d
at_most d (Falls env es) h = subst (λ (l : List Event). most_active 0 l ≤ d) (append-nil es) (h.is.low 0 d [] (omega arith) (omega arith))
at_most d (Returns n es) h = subst (λ (l : List Event). most_active 0 l ≤ d) (append-nil es) (h.is.low 0 d [] (omega arith) (omega arith))
at_most d (Stuck s i t es) h = h.is.low 0 d (omega arith)

pub active_calls : ActiveCalls
active_calls items g vs m = at_most (call_depth_of items) (calls_of items g vs m) (from_low no_calls (λ h. 0) 0 0 items (λ h ws k. record { is = record { low = λ now bound le. omega (arith, le) } }) (λ h. omega arith) g vs m)
