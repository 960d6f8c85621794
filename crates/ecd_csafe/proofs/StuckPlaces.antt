-- A run is stuck at a statement of the program.
use Rattle.std.proofs.Common.{◌≡◌, ℕ, zero, suc, ◌+◌, ◌<◌, ◌≤◌, List, [], ◌∷◌, ◌++◌, refl, subst, arith, Bool, true, false}
use Rattle.std.specs.Prelude.{if◌then◌else◌, bytes_eq, Option, Some, None, slice_get, nat_lt, length, ◌%◌}
use Rattle.ecd_cast.specs.declared.tree.Expr.{Expr}
use Rattle.ecd_cast.specs.declared.tree.Source.{Source}
use Rattle.ecd_cast.specs.declared.tree.Source.TheVariants.{Value as FromValue, Call as FromCall}
use Rattle.ecd_cast.specs.declared.tree.Stmt.{Stmt, Row_of-Stmt, end_of-Stmt, more_of-Stmt}
use Rattle.ecd_cast.specs.declared.tree.Stmt.TheVariants.{Number as DeclNumber, Pointer as DeclPointer, Assign, Store, SetCell, If', For', Return}
use Rattle.ecd_cast.specs.declared.tree.Function.{Function}
use Rattle.ecd_cast.specs.declared.tree.CItem.{CItem}
use Rattle.ecd_cast.specs.declared.tree.CItem.TheVariants.{Struct as AStruct, Function as AFunction}
use Rattle.ecd_cast.specs.Memory.{Name, Memory, Block, Bytes, Cells, Event, Step, Enters, WritesByte, after}
use Rattle.ecd_cast.specs.declared.value.Value.{Value}
use Rattle.ecd_cast.specs.declared.value.Value.TheVariants.{Number as Num, Truth, Bytes as Ptr, Struct as Str}
use Rattle.ecd_cast.specs.Expressions.{Outcome, Gives, Fails, Scopes, lookup, given, value_of}
use Rattle.ecd_cast.specs.Meaning.{Run, Falls, Returns, Stuck, doing, and_then, fall, Place, shifted, stuck, with, on_number, on_truth, declare, assign, leave, Calls, with_args, from_call, from_source, write, store_in, store, set_cell, Code, scoped, turns, count_of, count_in, does, does_row, block, ended, called, no_calls, with_item, calls_from, frame_of}
use Rattle.ecd_cast.specs.Meaning.{count_all}
use Rattle.ecd_csafe.specs.Stuck.{IsStatement, StuckPlaces}

module _ (items : List CItem) where
  abbrev IsInside : Run → Type 0
  IsInside (Falls env es) = Unit {0}
  IsInside (Returns n es) = Unit {0}
  IsInside (Stuck r i s es) = 0 < r → IsStatement items i s

  -- stuck at a statement of the items, if for a reason of the table
  record Inside (r : Run) : Type 0 where
    pub is : IsInside r

  -- so many statements from a place on are statements of the items
  record Covers (p : Place) (n : ℕ) : Type 0 where
    pub each : (s : ℕ) → p.statement ≤ s → s < p.statement + n → IsStatement items p.item s

  covers_part : (p : Place) (n j k : ℕ) → j + k ≤ n → Covers p n → Covers (shifted p j) k
  covers_part p n j k le c = record { each = λ s low high. c.each s (omega (arith, low)) (omega (arith, high, le)) }

  -- the first of them
  covers_front : (p : Place) (n k : ℕ) → k ≤ n → Covers p n → Covers p k
  covers_front p n k le c = record { each = λ s low high. c.each s low (omega (arith, high, le)) }

  -- ---- runs

  stuck_in : (p : Place) (r : ℕ) → Covers p 1 → Inside (stuck p r)
  stuck_in p r c = record { is = λ pos. c.each p.statement (omega arith) (omega arith) }

  rule_in : (p : Place) → Inside (stuck p 0)
  rule_in p = record { is = λ pos. absurd (omega (arith, pos)) }

  fall_in : (env : Scopes) → Inside (fall env)
  fall_in env = record { is = tt }

  doing_in : (es : List Event) (r : Run) → Inside r → Inside (doing es r)
  doing_in es (Falls env ds) h = record { is = tt }
  doing_in es (Returns n ds) h = record { is = tt }
  doing_in es (Stuck r i s ds) h = record { is = h.is }

  then_in : (r : Run) (m : Memory) (f : Scopes → Memory → Run) → Inside r → ((env : Scopes) (m' : Memory) → Inside (f env m')) → Inside (and_then r m f)
  then_in (Falls env es) m f h k = doing_in es (f env (after es m)) (k env (after es m))
  then_in (Returns n es) m f h k = h
  then_in (Stuck r i s es) m f h k = h

  with_in : (p : Place) (o : Outcome) (f : Value → Run) → Covers p 1 → ((v : Value) → Inside (f v)) → Inside (with p o f)
  with_in p (Gives v) f c h = h v
  with_in p (Fails r) f c h = stuck_in p r c

  number_in : (p : Place) (v : Value) (f : ℕ → Run) → ((n : ℕ) → Inside (f n)) → Inside (on_number p v f)
  number_in p (Num n) f h = h n
  number_in p (Truth b) f h = rule_in p
  number_in p (Ptr b o) f h = rule_in p
  number_in p (Str b) f h = rule_in p

  truth_in : (p : Place) (v : Value) (f g : Unit {0} → Run) → Inside (f tt) → Inside (g tt) → Inside (on_truth p v f g)
  truth_in p (Truth true) f g h k = h
  truth_in p (Truth false) f g h k = k
  truth_in p (Num n) f g h k = rule_in p
  truth_in p (Ptr b o) f g h k = rule_in p
  truth_in p (Str b) f g h k = rule_in p

  args_in : (p : Place) (args : List Expr) (env : Scopes) (m : Memory) (done : List Value) (f : List Value → Run) → Covers p 1 → ((vs : List Value) → Inside (f vs)) → Inside (with_args p args env m done f)
  args_in p [] env m done f c h = h done
  args_in p (a ∷ more) env m done f c h = with_in p (value_of a env m) (λ v. with_args p more env m (done ++ v ∷ []) f) c (λ v. args_in p more env m (done ++ v ∷ []) f c h)

  call_in : (p : Place) (r : Run) (f : Value → Run) → Inside r → ((v : Value) → Inside (f v)) → Inside (from_call p r f)
  call_in p (Falls env es) f h k = rule_in p
  call_in p (Returns n es) f h k = doing_in es (f (Num n)) (k (Num n))
  call_in p (Stuck r i s es) f h k = h

  store_in_in : (p : Place) (o : Option Block) (b at_ n : ℕ) (env : Scopes) → Covers p 1 → Inside (store_in p o b at_ n env)
  store_in_in p (Some (Bytes bytes)) b at_ n env c = by_test (nat_lt at_ (length bytes))
    where
      by_test : (t : Bool) → Inside (if t then write env (WritesByte b at_ (n % 256)) else stuck p 2)
      by_test true = record { is = tt }
      by_test false = stuck_in p 2 c
  store_in_in p (Some (Cells cells)) b at_ n env c = rule_in p
  store_in_in p None b at_ n env c = rule_in p

  store_inside : (p : Place) (m : Memory) (q j v : Value) (env : Scopes) → Covers p 1 → Inside (store p m q j v env)
  store_inside p m (Ptr b o) (Num i) (Num n) env c = store_in_in p (slice_get m b) b (o + i) n env c
  store_inside p m (Ptr b o) (Num i) (Truth t) env c = rule_in p
  store_inside p m (Ptr b o) (Num i) (Ptr d k) env c = rule_in p
  store_inside p m (Ptr b o) (Num i) (Str d) env c = rule_in p
  store_inside p m (Ptr b o) (Truth t) v env c = rule_in p
  store_inside p m (Ptr b o) (Ptr d k) v env c = rule_in p
  store_inside p m (Ptr b o) (Str d) v env c = rule_in p
  store_inside p m (Num n) j v env c = rule_in p
  store_inside p m (Truth t) j v env c = rule_in p
  store_inside p m (Str b) j v env c = rule_in p

  cell_in : (p : Place) (q : Value) (x : Name) (v : Value) (env : Scopes) → Inside (set_cell p q x v env)
  cell_in p (Str b) x (Num n) env = record { is = tt }
  cell_in p (Str b) x (Ptr k o) env = record { is = tt }
  cell_in p (Str b) x (Truth t) env = rule_in p
  cell_in p (Str b) x (Str k) env = rule_in p
  cell_in p (Num n) x v env = rule_in p
  cell_in p (Truth t) x v env = rule_in p
  cell_in p (Ptr b o) x v env = rule_in p

  scoped_in : (code : Code) (env : Scopes) (m : Memory) → ((e : Scopes) (n : Memory) → Inside (code e n)) → Inside (scoped code env m)
  scoped_in code env m h = then_in (code ([] ∷ env) m) m (λ env' m'. fall (leave env')) (h ([] ∷ env) m) (λ e n. fall_in (leave e))

  turns_in : (n i : ℕ) (x : Name) (code : Code) (env : Scopes) (m : Memory) → ((e : Scopes) (k : Memory) → Inside (code e k)) → Inside (turns n i x code env m)
  turns_in zero i x code env m h = fall_in env
  turns_in (suc n) i x code env m h =
      doing_in (Step ∷ []) (and_then (code (((x, Num i) ∷ []) ∷ env) m) m (λ env' m'. turns n (i + 1) x code (leave env') m'))
      (then_in (code (((x, Num i) ∷ []) ∷ env) m) m (λ env' m'. turns n (i + 1) x code (leave env') m') (h (((x, Num i) ∷ []) ∷ env) m) (λ e k. turns_in n (i + 1) x code (leave e) k h))

  -- ---- statements

  module _ (calls : Calls) (known : (g : Name) (vs : List Value) (m : Memory) → Inside (calls g vs m)) where
    source_in : (p : Place) (s : Source) (env : Scopes) (m : Memory) (f : Value → Scopes) → Covers p 1 → Inside (from_source calls p s env m (λ v. fall (f v)))
    source_in p (FromValue e) env m f c = with_in p (value_of e env m) (λ v. fall (f v)) c (λ v. fall_in (f v))
    source_in p (FromCall g args) env m f c =
        args_in p args env m [] (λ vs. from_call p (calls g vs m) (λ v. fall (f v))) c (λ vs. call_in p (calls g vs m) (λ v. fall (f v)) (known g vs m) (λ v. fall_in (f v)))

    mutual
      stmt_in : (s : Stmt) (p : Place) (env : Scopes) (m : Memory) → Covers p (count_of s) → Inside (does calls s p env m)
      stmt_in (DeclNumber x e) p env m c = source_in p e env m (λ v. declare x v env) c
      stmt_in (DeclPointer x e) p env m c = with_in p (value_of e env m) (λ v. fall (declare x v env)) c (λ v. fall_in (declare x v env))
      stmt_in (Assign x e) p env m c = source_in p e env m (λ v. assign x v env) c
      stmt_in (Store x i e) p env m c =
          with_in p (given (lookup env x)) _ c (λ q. with_in p (value_of i env m) _ c (λ j. with_in p (value_of e env m) _ c (λ v. store_inside p m q j v env c)))
      stmt_in (SetCell x d e) p env m c = with_in p (given (lookup env x)) _ c (λ q. with_in p (value_of e env m) _ c (λ v. cell_in p q d v env))
      stmt_in (If' t s ys u ns) p env m c =
          let alone = covers_front p (1 + count_in ys + count_in ns) 1 (omega arith) c in
          let first = covers_part p (1 + count_in ys + count_in ns) 1 (count_in ys) (omega arith) c in
          let second = covers_part p (1 + count_in ys + count_in ns) (1 + count_in ys) (count_in ns) (omega arith) c in
          with_in p (value_of t env m) _ alone (λ v. truth_in p v _ _
          (scoped_in (does_row calls ys (shifted p 1)) env m (λ e k. row_in ys (shifted p 1) e k first))
          (scoped_in (does_row calls ns (shifted p (1 + count_in ys))) env m (λ e k. row_in ns (shifted p (1 + count_in ys)) e k second)))
      stmt_in (For' x b s body) p env m c =
          let alone = covers_front p (1 + count_in body) 1 (omega arith) c in
          let inside = covers_part p (1 + count_in body) 1 (count_in body) (omega arith) c in
          with_in p (given (lookup env b)) _ alone (λ v. number_in p v _ (λ n. turns_in n 0 x (does_row calls body (shifted p 1)) env m (λ e k. row_in body (shifted p 1) e k inside)))
      stmt_in (Return e) p env m c = with_in p (value_of e env m) _ c (λ v. number_in p v (λ n. Returns n []) (λ n. record { is = tt }))

      row_in : {n : _} (r : Row_of-Stmt n) (p : Place) (env : Scopes) (m : Memory) → Covers p (count_in r) → Inside (does_row calls r p env m)
      row_in end_of-Stmt p env m c = fall_in env
      row_in (more_of-Stmt s rest) p env m c =
          let here = covers_front p (count_of s + count_in rest) (count_of s) (omega arith) c in
          let behind = covers_part p (count_of s + count_in rest) (count_of s) (count_in rest) (omega arith) c in
          doing_in (Step ∷ []) _ (then_in (does calls s p env m) m (does_row calls rest (shifted p (count_of s))) (stmt_in s p env m here) (λ e k. row_in rest (shifted p (count_of s)) e k behind))

    block_in : (ss : List Stmt) (p : Place) (env : Scopes) (m : Memory) → Covers p (count_all ss) → Inside (block calls ss p env m)
    block_in [] p env m c = fall_in env
    block_in (s ∷ rest) p env m c =
        let here = covers_front p (count_of s + count_all rest) (count_of s) (omega arith) c in
        let behind = covers_part p (count_of s + count_all rest) (count_of s) (count_all rest) (omega arith) c in
        doing_in (Step ∷ []) _ (then_in (does calls s p env m) m (block calls rest (shifted p (count_of s))) (stmt_in s p env m here) (λ e k. block_in rest (shifted p (count_of s)) e k behind))

    -- ---- functions

    ended_in : (at_ : ℕ) (r : Run) → Inside r → Inside (ended at_ r)
    ended_in at_ (Falls env es) h = record { is = λ pos. absurd (omega (arith, pos)) }
    ended_in at_ (Returns n es) h = record { is = tt }
    ended_in at_ (Stuck r i s es) h = h

    function_in : (at_ : ℕ) (f : Function) → slice_get items at_ ≡ Some (AFunction f) → (vs : List Value) (m : Memory) → Inside (called calls at_ f vs m)
    function_in at_ f e vs m =
        let all : Covers (record { item = at_; statement = 1 }) (count_all f.body) = record { each = λ s low high. record { function = f; stands = e; first = omega (arith, low); last = omega (arith, high) } } in
        doing_in (Enters ∷ []) _ (ended_in at_ _ (block_in f.body (record { item = at_; statement = 1 }) (frame_of f.params vs ∷ []) m all))

    item_in : (at_ : ℕ) (f : Function) → slice_get items at_ ≡ Some (AFunction f) → (g : Name) (vs : List Value) (m : Memory) → Inside (with_item calls at_ (AFunction f) g vs m)
    item_in at_ f e g vs m = by_test (bytes_eq f.name g)
      where
        by_test : (b : Bool) → Inside (elim b [ true ↦ called calls at_ f vs m | false ↦ calls g vs m ])
        by_test true = function_in at_ f e vs m
        by_test false = known g vs m

  -- the items from a number on are these
  record Stands (at_ : ℕ) (rest : List CItem) : Type 0 where
    pub each : (j : ℕ) (f : Function) → slice_get rest j ≡ Some (AFunction f) → slice_get items (at_ + j) ≡ Some (AFunction f)

  stands_behind : (at_ : ℕ) (i : CItem) (is : List CItem) → Stands at_ (i ∷ is) → Stands (at_ + 1) is
  stands_behind at_ i is h = record {
    each = λ j f e. let same : at_ + suc j ≡ at_ + 1 + j = omega arith in subst (λ (k : ℕ). slice_get items k ≡ Some (AFunction f)) same (h.each (suc j) f e);
  }

  stands_here : (at_ : ℕ) (f : Function) (is : List CItem) → Stands at_ (AFunction f ∷ is) → slice_get items at_ ≡ Some (AFunction f)
  stands_here at_ f is h = let same : at_ + 0 ≡ at_ = omega arith in subst (λ (k : ℕ). slice_get items k ≡ Some (AFunction f)) same (h.each 0 f refl)

  from_in : (calls : Calls) (at_ : ℕ) (rest : List CItem) → Stands at_ rest → ((g : Name) (vs : List Value) (m : Memory) → Inside (calls g vs m)) → (g : Name) (vs : List Value) (m : Memory) → Inside (calls_from calls at_ rest g vs m)
  from_in calls at_ [] h known g vs m = known g vs m
  from_in calls at_ (AStruct s ∷ is) h known g vs m = from_in (with_item calls at_ (AStruct s)) (at_ + 1) is (stands_behind at_ (AStruct s) is h) known g vs m
  from_in calls at_ (AFunction f ∷ is) h known g vs m =
      from_in (with_item calls at_ (AFunction f)) (at_ + 1) is (stands_behind at_ (AFunction f) is h) (item_in calls known at_ f (stands_here at_ f is h)) g vs m

pub stuck_places : StuckPlaces
stuck_places items g vs m reason item statement es e pos =
    let all : Stands items 0 items = record { each = λ j f h. let same : j ≡ 0 + j = omega arith in subst (λ (k : ℕ). slice_get items k ≡ Some (AFunction f)) same h } in
    let none : (h : Name) (ws : List Value) (k : Memory) → Inside items (no_calls h ws k) = λ h ws k. record { is = λ p. absurd (omega (arith, p)) } in
    let inside : Inside items (Stuck reason item statement es) = subst (Inside items) e (from_in items no_calls 0 items all none g vs m) in
    inside.is pos
