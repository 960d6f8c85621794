-- Ends, writes and steps of a run from those of its parts.
use Rattle.std.proofs.Common.{◌≡◌, ℕ, zero, suc, ◌+◌, ◌*◌, ◌<◌, ◌≤◌, List, [], ◌∷◌, ◌++◌, length, refl, ap, sym, ◌∙◌, subst, arith, add-zero, append-nil}
use Rattle.ecd_cast.specs.declared.tree.CItem.{CItem}
use Rattle.ecd_cast.specs.declared.tree.CItem.TheVariants.{Struct as AStruct, Function as AFunction}
use Rattle.ecd_cast.specs.declared.tree.Function.{Function}
use Rattle.ecd_cast.specs.declared.tree.Stmt.{Stmt}
use Rattle.ecd_cast.specs.declared.tree.Stmt.TheVariants.{Number as DeclNumber, Assign}
use Rattle.ecd_cast.specs.declared.tree.Source.TheVariants.{Call as FromCall}
use Rattle.ecd_cast.specs.declared.tree.Expr.{Expr}
use Rattle.ecd_cast.specs.Memory.{Name, Event, Step, Enters, Leaves, WritesByte, WritesCell, Memory, after, event, writes_of, steps_of}
use Rattle.ecd_cast.specs.declared.value.Value.{Value}
use Rattle.ecd_cast.specs.declared.value.Value.TheVariants.{Number as Num}
use Rattle.ecd_cast.specs.Expressions.{Scopes, Frame}
use Rattle.ecd_cast.specs.Meaning.{Run, Calls, calls_from, calls_of, with_item, Code, turns, fall, doing, and_then, from_call, scoped, called, block, frame_of, ended, Place, does, shifted, count_of, with_args, declare, assign, leave}
use Rattle.ecd_cast.specs.Kept.{IsNew}
use Rattle.ecd_calculus.specs.Ends.{End, Behind, With, run_to, Ends, Does}

-- ---- lists of events

pub writes-append : (a b : List Event) → writes_of (a ++ b) ≡ writes_of a ++ writes_of b
writes-append [] b = refl
writes-append (Step ∷ a) b = writes-append a b
writes-append (Enters ∷ a) b = writes-append a b
writes-append (Leaves ∷ a) b = writes-append a b
writes-append (WritesByte x y z ∷ a) b = ap (λ l. WritesByte x y z ∷ l) (writes-append a b)
writes-append (WritesCell x y z ∷ a) b = ap (λ l. WritesCell x y z ∷ l) (writes-append a b)

pub steps-append : (a b : List Event) → steps_of (a ++ b) ≡ steps_of a + steps_of b
steps-append [] b = omega arith
steps-append (Step ∷ a) b = let h = steps-append a b in omega arith
steps-append (Enters ∷ a) b = steps-append a b
steps-append (Leaves ∷ a) b = steps-append a b
steps-append (WritesByte x y z ∷ a) b = steps-append a b
steps-append (WritesCell x y z ∷ a) b = steps-append a b

-- the memory is what the writes alone make of it
pub after-writes : (a : List Event) (m : Memory) → after a m ≡ after (writes_of a) m
after-writes [] m = refl
after-writes (Step ∷ a) m = after-writes a m
after-writes (Enters ∷ a) m = after-writes a m
after-writes (Leaves ∷ a) m = after-writes a m
after-writes (WritesByte x y z ∷ a) m = after-writes a _
after-writes (WritesCell x y z ∷ a) m = after-writes a _

pub after-append : (a b : List Event) (m : Memory) → after (a ++ b) m ≡ after b (after a m)
after-append [] b m = refl
after-append (e ∷ a) b m = after-append a b (event e m)

pub after_quiet : (a : List Event) (m : Memory) → writes_of a ≡ [] → after a m ≡ m
after_quiet a m e = after-writes a m ∙ ap (λ w. after w m) e

-- ---- any code

pub ends_doing : (es : List Event) (r : Run) (e : End) (vs ws : List Event) (a b : ℕ) → writes_of es ≡ vs → steps_of es ≤ a → Ends r e ws b → Ends (doing es r) e (vs ++ ws) (a + b)
ends_doing es r e vs ws a b h s k = record {
  events = es ++ k.events;
  is = ap (doing es) k.is ∙ joined e;
  wrote = writes-append es k.events ∙ (ap (λ l. l ++ writes_of k.events) h ∙ ap (λ l. vs ++ l) k.wrote);
  short = omega (arith, steps-append es k.events, k.short);
}
  where
    joined : (e : End) → doing es (run_to e k.events) ≡ run_to e (es ++ k.events)
    joined (Behind env) = refl
    joined (With n) = refl

pub ends_step : (r : Run) (e : End) (ws : List Event) (most : ℕ) → Ends r e ws most → Ends (doing (Step ∷ []) r) e ws (suc most)
ends_step r e ws most h =
    let k = ends_doing (Step ∷ []) r e [] ws 1 most refl (omega arith) h in
    record { events = k.events; is = k.is; wrote = k.wrote; short = omega (arith, k.short) }

pub ends_within : (r : Run) (e : End) (ws : List Event) (a b : ℕ) → a ≤ b → Ends r e ws a → Ends r e ws b
ends_within r e ws a b le h = record { events = h.events; is = h.is; wrote = h.wrote; short = omega (arith, h.short) }

-- a piece that falls through, and the rest
pub ends_then : (r : Run) (m : Memory) (f : Scopes → Memory → Run) (env : Scopes) (e : End) (vs ws : List Event) (a b : ℕ) →
    Ends r (Behind env) vs a → Ends (f env (after vs m)) e ws b → Ends (and_then r m f) e (vs ++ ws) (a + b)
ends_then r m f env e vs ws a b h k =
    let same : after h.events m ≡ after vs m = after-writes h.events m ∙ ap (λ w. after w m) h.wrote in
    let there : Ends (f env (after h.events m)) e ws b = subst (λ (n : Memory). Ends (f env n) e ws b) (sym same) k in
    subst (λ (x : Run). Ends (and_then x m f) e (vs ++ ws) (a + b)) (sym h.is) (ends_doing h.events (f env (after h.events m)) e vs ws a b h.wrote h.short there)

-- a piece that returns
pub returns_then : (r : Run) (m : Memory) (f : Scopes → Memory → Run) (n : ℕ) (vs : List Event) (most : ℕ) → Ends r (With n) vs most → Ends (and_then r m f) (With n) vs most
returns_then r m f n vs most h = record { events = h.events; is = ap (λ (x : Run). and_then x m f) h.is; wrote = h.wrote; short = h.short }

pub ends_call : (p : Place) (r : Run) (f : Value → Run) (n : ℕ) (e : End) (vs ws : List Event) (a b : ℕ) → Ends r (With n) vs a → Ends (f (Num n)) e ws b → Ends (from_call p r f) e (vs ++ ws) (a + b)
ends_call p r f n e vs ws a b h k =
    subst (λ (x : Run). Ends (from_call p x f) e (vs ++ ws) (a + b)) (sym h.is) (ends_doing h.events (f (Num n)) e vs ws a b h.wrote h.short k)

pub fall_ends : (env : Scopes) → Ends (fall env) (Behind env) [] 0
fall_ends env = record { events = []; is = refl; wrote = refl; short = omega arith }

same_ends : (r : Run) (e : End) (vs : List Event) (a : ℕ) → Ends r e (vs ++ []) (a + 0) → Ends r e vs a
same_ends r e vs a h = record { events = h.events; is = h.is; wrote = h.wrote ∙ append-nil vs; short = omega (arith, h.short) }

pub ends_scoped : (code : Code) (env : Scopes) (m : Memory) (env' : Scopes) (vs : List Event) (most : ℕ) → Ends (code ([] ∷ env) m) (Behind env') vs most → Ends (scoped code env m) (Behind (leave env')) vs most
ends_scoped code env m env' vs most h =
    same_ends _ _ vs most (ends_then (code ([] ∷ env) m) m (λ e m'. fall (leave e)) env' (Behind (leave env')) vs [] most 0 h (fall_ends (leave env')))

pub returns_scoped : (code : Code) (env : Scopes) (m : Memory) (n : ℕ) (vs : List Event) (most : ℕ) → Ends (code ([] ∷ env) m) (With n) vs most → Ends (scoped code env m) (With n) vs most
returns_scoped code env m n vs most h = returns_then (code ([] ∷ env) m) m (λ e m'. fall (leave e)) n vs most h

-- ---- statements

pub block_falls : (calls : Calls) (s : Stmt) (rest : List Stmt) (p : Place) (env : Scopes) (m : Memory) (env' : Scopes) (e : End) (vs ws : List Event) (a b : ℕ) →
    Ends (does calls s p env m) (Behind env') vs a → Ends (block calls rest (shifted p (count_of s)) env' (after vs m)) e ws b → Ends (block calls (s ∷ rest) p env m) e (vs ++ ws) (suc (a + b))
block_falls calls s rest p env m env' e vs ws a b h k =
    ends_step (and_then (does calls s p env m) m (block calls rest (shifted p (count_of s)))) e (vs ++ ws) (a + b) (ends_then (does calls s p env m) m (block calls rest (shifted p (count_of s))) env' e vs ws a b h k)

pub block_returns : (calls : Calls) (s : Stmt) (rest : List Stmt) (p : Place) (env : Scopes) (m : Memory) (n : ℕ) (vs : List Event) (most : ℕ) →
    Ends (does calls s p env m) (With n) vs most → Ends (block calls (s ∷ rest) p env m) (With n) vs (suc most)
block_returns calls s rest p env m n vs most h =
    ends_step (and_then (does calls s p env m) m (block calls rest (shifted p (count_of s)))) (With n) vs most (returns_then (does calls s p env m) m (block calls rest (shifted p (count_of s))) n vs most h)

module _ (calls : Calls) (x g : Name) (args : List Expr) (p : Place) (env : Scopes) (m : Memory) (n : ℕ) (vs : List Value) (ws : List Event) (most : ℕ) (passed : (f : List Value → Run) → with_args p args env m [] f ≡ f vs) where
  -- a declaration from a call
  pub call_declares : Ends (calls g vs m) (With n) ws most → Ends (does calls (DeclNumber x (FromCall g args)) p env m) (Behind (declare x (Num n) env)) ws most
  call_declares h =
      let on : Value → Run = λ v. fall (declare x v env) in
      let there = same_ends _ _ ws most (ends_call p (calls g vs m) on n (Behind (declare x (Num n) env)) ws [] most 0 h (fall_ends (declare x (Num n) env))) in
      subst (λ (r : Run). Ends r (Behind (declare x (Num n) env)) ws most) (sym (passed (λ us. from_call p (calls g us m) on))) there

  -- an assignment from a call
  pub call_assigns : Ends (calls g vs m) (With n) ws most → Ends (does calls (Assign x (FromCall g args)) p env m) (Behind (assign x (Num n) env)) ws most
  call_assigns h =
      let on : Value → Run = λ v. fall (assign x v env) in
      let there = same_ends _ _ ws most (ends_call p (calls g vs m) on n (Behind (assign x (Num n) env)) ws [] most 0 h (fall_ends (assign x (Num n) env))) in
      subst (λ (r : Run). Ends r (Behind (assign x (Num n) env)) ws most) (sym (passed (λ us. from_call p (calls g us m) on))) there

-- a call of a function whose body returns
pub ends_called : (calls : Calls) (at : ℕ) (f : Function) (args : List Value) (m : Memory) (n : ℕ) (ws : List Event) (most : ℕ) →
    Ends (block calls f.body (record { item = at; statement = 1 }) (frame_of f.params args ∷ []) m) (With n) ws most → Does (called calls at f args m) n ws most
ends_called calls at f args m n ws most h = record {
  events = Enters ∷ (h.events ++ Leaves ∷ []);
  is = ap (λ (r : Run). doing (Enters ∷ []) (ended at r)) h.is;
  wrote = writes-append h.events (Leaves ∷ []) ∙ (append-nil (writes_of h.events) ∙ h.wrote);
  short = omega (arith, steps-append h.events (Leaves ∷ []), h.short);
}

-- ---- loops

-- a loop whose turns fall through and write nothing, each in at most k steps besides its own
pub quiet_loop : (x : Name) (body : Code) (m : Memory) (E : ℕ → Scopes) (n k : ℕ) →
    ((i : ℕ) → i < n → (f : Frame) × Ends (body (((x, Num i) ∷ []) ∷ E i) m) (Behind (f ∷ E (i + 1))) [] k) →
    (left i : ℕ) → i + left ≡ n → Ends (turns left i x body (E i) m) (Behind (E n)) [] (left * suc k)
quiet_loop x body m E n k turn zero i e =
    let here : Ends (fall (E n)) (Behind (E n)) [] 0 = fall_ends (E n) in
    let same : n ≡ i = omega arith in
    ends_within _ _ _ 0 (0 * suc k) (omega arith) (subst (λ (j : ℕ). Ends (fall (E j)) (Behind (E n)) [] 0) same here)
quiet_loop x body m E n k turn (suc left) i e =
    let t = turn i (omega arith) in
    let rest = quiet_loop x body m E n k turn left (i + 1) (omega arith) in
    let both = ends_then (body (((x, Num i) ∷ []) ∷ E i) m) m (λ env' m'. turns left (i + 1) x body (leave env') m') (t.0 ∷ E (i + 1)) (Behind (E n)) [] [] k (left * suc k) t.1 rest in
    let all = ends_step _ _ _ _ both in
    let le : suc (k + left * suc k) ≤ suc left * suc k = grind arith in
    ends_within _ _ _ (suc (k + left * suc k)) (suc left * suc k) le all

-- ---- items behind a function change nothing of it

pub calls_append : (calls : Calls) (at : ℕ) (xs ys : List CItem) → calls_from calls at (xs ++ ys) ≡ calls_from (calls_from calls at xs) (at + length xs) ys
calls_append calls at [] ys = ap (λ k. calls_from calls k ys) (sym (add-zero at))
calls_append calls at (x ∷ xs) ys =
    let e : at + 1 + length xs ≡ at + suc (length xs) = omega arith in
    calls_append (with_item calls at x) (at + 1) xs ys ∙ ap (λ k. calls_from (calls_from (with_item calls at x) (at + 1) xs) k ys) e

kept_from : (calls : Calls) (at : ℕ) (is : List CItem) (g : Name) (vs : List Value) (m : Memory) → IsNew g is → calls_from calls at is g vs m ≡ calls g vs m
kept_from calls at [] g vs m h = refl
kept_from calls at (AStruct s ∷ is) g vs m h = kept_from (with_item calls at (AStruct s)) (at + 1) is g vs m h
kept_from calls at (AFunction f ∷ is) g vs m h = kept_from (with_item calls at (AFunction f)) (at + 1) is g vs m h.1 ∙ rw (h.0, with_item)

pub calls_kept : (items more : List CItem) (g : Name) (vs : List Value) (m : Memory) → IsNew g more → calls_of (items ++ more) g vs m ≡ calls_of items g vs m
calls_kept items more g vs m h = rw calls_append (kept_from (calls_of items) (0 + length items) more g vs m h)
