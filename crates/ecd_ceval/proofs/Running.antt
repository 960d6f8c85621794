-- Blocks, loops and calls, followed by their parts.
use Rattle.std.proofs.Common.{◌≡◌, ℕ, zero, suc, ◌+◌, ◌<◌, ◌≤◌, List, [], ◌∷◌, ◌++◌, length, get_or, drop, refl, ap, sym, subst, ◌∙◌, append-nil, append_assoc, drop-cons, add-one}
use Rattle.std.specs.Prelude.{Result, Ok, Err, bytes_eq, Bool, true, false}
use Rattle.std.proofs.lemmas.List.{drop_all}
use Rattle.ecd_cast.specs.declared.tree.Expr.{Expr}
use Rattle.ecd_cast.specs.declared.tree.Stmt.{Stmt}
use Rattle.ecd_cast.specs.declared.tree.Stmt.TheVariants.{If, For, Number as DeclNumber, Assign}
use Rattle.ecd_cast.specs.declared.tree.Source.TheVariants.{Call as FromCall}
use Rattle.ecd_cast.specs.declared.tree.CItem.{CItem}
use Rattle.ecd_cast.specs.declared.tree.CItem.TheVariants.{Struct as AStruct, Function as AFunction}
use Rattle.ecd_cast.specs.declared.tree.Function.{Function}
use Rattle.ecd_cast.specs.declared.value.Value.{Value}
use Rattle.ecd_cast.specs.declared.value.Value.TheVariants.{Number as Num, Truth}
use Rattle.ecd_cast.specs.Memory.{Name, Memory, Event, Step, Enters, Leaves, after}
use Rattle.ecd_cast.specs.Expressions.{Outcome, Gives, Fails, Scopes, lookup, given, value_of}
use Rattle.ecd_cast.specs.Meaning.{Run, Falls, Returns, Stuck, Calls, Code, Place, doing, and_then, fall, events_of, does, block, turns, scoped, leave, declare, assign, shifted, count_of, with_args, from_call, with, calls_of, calls_from, no_calls, with_item, called, ended, frame_of}
use Rattle.ecd_cast.specs.Meaning.{count_all}
use Rattle.ecd_cast.proofs.Layers.{does-If, does-For}
use Rattle.ecd_ceval.specs.declared.stop.Flow.{Flow}
use Rattle.ecd_ceval.specs.declared.stop.Flow.TheVariants as flow
use Rattle.ecd_ceval.specs.declared.stop.Stop.{Stop}
use Rattle.ecd_ceval.specs.declared.stop.Stop.TheVariants as stop
use Rattle.ecd_ceval.specs.declared.state.State.{State}
use Rattle.ecd_ceval.specs.Following.{Follows, Whole, memory_in, begun, call_begun, turn_run, as_return, as_flow, IsCut}
use Rattle.ecd_ceval.proofs.Following.{passes_zero, whole_none, whole_then, Waits, waits_nil, waits_step, WaitsCode, events-doing, waits_doing, cut_run, cut_more, follows_doing, follows_then, follows_return, follows_stop, follows_want, follows_late}

-- ---- events one after another

doing-doing : (a b : List Event) (r : Run) → doing a (doing b r) ≡ doing (a ++ b) r
doing-doing a b (Falls env ds) = ap (Falls env) (sym (append_assoc a b ds))
doing-doing a b (Returns n ds) = ap (Returns n) (sym (append_assoc a b ds))
doing-doing a b (Stuck r i s ds) = ap (Stuck r i s) (sym (append_assoc a b ds))

-- a step before a piece is a step before the piece and the rest
pub step_then : (r : Run) (m : Memory) (f : Code) → doing (Step ∷ []) (and_then r m f) ≡ and_then (doing (Step ∷ []) r) m f
step_then (Falls env es) m f = doing-doing (Step ∷ []) es (f env (after es m))
step_then (Returns n es) m f = refl
step_then (Stuck r i s es) m f = refl

-- whatever follows the rest of a run follows the run
pub record Onward (whole : Run) (from : State) (rest : Run) (now : State) : Type 0 where
  pub onward : (x : Result Flow Stop) (next : Scopes) (new : State) → Follows rest x next now new → Follows whole x next from new

pub onward_here : (r : Run) (s : State) → Onward r s r s
onward_here r s = record { onward = λ x next new f. f }

-- ---- a falling run

pub follows_fall : (env : Scopes) (s : State) → Follows (fall env) (Ok flow.Falls) env s s
follows_fall env s = record { by = (refl, whole_none s) }

pub waits_block : (calls : Calls) (body : List Stmt) (p : Place) → WaitsCode (block calls body p)
waits_block calls [] p = record { waits = λ env m. waits_nil }
waits_block calls (s ∷ rest) p = record { waits = λ env m. waits_doing (and_then (does calls s p env m) m (block calls rest (shifted p (count_of s)))) }

waits_turns : (n i : ℕ) (x : Name) (body : Code) → WaitsCode (turns n i x body)
waits_turns zero i x body = record { waits = λ env m. waits_nil }
waits_turns (suc n) i x body = record { waits = λ env m. waits_doing (and_then (body (((x, Num i) ∷ []) ∷ env) m) m (λ next m'. turns n (i + 1) x body (leave next) m')) }

-- ---- blocks

module _ (calls : Calls) (body : List Stmt) (i : ℕ) (s d : Stmt) (p : Place) (env : Scopes) (now : State) (lt : i < length body) (is : s ≡ get_or body i d) where
  opened : block calls (drop i body) p env (memory_in now) ≡ and_then (begun calls s p env (memory_in now)) (memory_in now) (block calls (drop (i + 1) body) (shifted p (count_of s)))
  opened =
      ap (λ l. block calls l p env (memory_in now)) (drop-cons body i d lt ∙ (ap (λ y. y ∷ drop (suc i) body) (sym is) ∙ ap (λ k. s ∷ drop k body) (sym (add-one i)))) ∙
      step_then (does calls s p env (memory_in now)) (memory_in now) (block calls (drop (i + 1) body) (shifted p (count_of s)))

  module _ (whole : Run) (from : State) (onward : Onward whole from (block calls (drop i body) p env (memory_in now)) now) where
    pub block_next : (mid : State) (env1 : Scopes) → Follows (begun calls s p env (memory_in now)) (Ok flow.Falls) env1 now mid → Onward whole from (block calls (drop (i + 1) body) (shifted p (count_of s)) env1 (memory_in mid)) mid
    block_next mid env1 h = record {
      onward = λ x next new f.
          onward.onward x next new
          (subst (λ (r : Run). Follows r x next now new) (sym opened)
          (follows_then (begun calls s p env (memory_in now)) (block calls (drop (i + 1) body) (shifted p (count_of s))) x env1 next now mid new h f));
    }

    pub block_return : (mid : State) (env1 next : Scopes) (n : ℕ) → Follows (begun calls s p env (memory_in now)) (Ok (flow.Returns n)) env1 now mid → Follows whole (Ok (flow.Returns n)) next from mid
    block_return mid env1 next n h =
        onward.onward (Ok (flow.Returns n)) next mid
        (subst (λ (r : Run). Follows r (Ok (flow.Returns n)) next now mid) (sym opened)
        (follows_return (begun calls s p env (memory_in now)) (block calls (drop (i + 1) body) (shifted p (count_of s))) n env1 next now mid (memory_in now) h))

    pub block_stop : (mid : State) (env1 next : Scopes) (x : Stop) → Follows (begun calls s p env (memory_in now)) (Err x) env1 now mid → Follows whole (Err x) next from mid
    block_stop mid env1 next x h =
        onward.onward (Err x) next mid
        (subst (λ (r : Run). Follows r (Err x) next now mid) (sym opened)
        (follows_stop (begun calls s p env (memory_in now)) (block calls (drop (i + 1) body) (shifted p (count_of s))) x env1 next now mid (memory_in now) (waits_block calls (drop (i + 1) body) (shifted p (count_of s))) h))

    pub block_late : (mid : State) (env1 next : Scopes) → Follows (begun calls s p env (memory_in now)) (Ok flow.Falls) env1 now mid → Follows whole (Err stop.OutOfMemory) next from mid
    block_late mid env1 next h = block_stop mid env1 next stop.OutOfMemory (follows_late (begun calls s p env (memory_in now)) env1 env1 now mid flow.Falls h)

pub block_end : (calls : Calls) (body : List Stmt) (i : ℕ) (p : Place) (env : Scopes) (now : State) (whole : Run) (from : State) → length body ≤ i → Onward whole from (block calls (drop i body) p env (memory_in now)) now →
    Follows whole (Ok flow.Falls) env from now
block_end calls body i p env now whole from le o =
    o.onward (Ok flow.Falls) env now (subst (λ (l : List Stmt). Follows (block calls l p env (memory_in now)) (Ok flow.Falls) env now now) (sym (drop_all i body le)) (follows_fall env now))

-- ---- blocks with variables of their own

waits_left : WaitsCode (λ next m'. fall (leave next))
waits_left = record { waits = λ env m. waits_nil }

pub scoped_falls : (code : Code) (env env1 : Scopes) (now new : State) → Follows (code ([] ∷ env) (memory_in now)) (Ok flow.Falls) env1 now new → Follows (scoped code env (memory_in now)) (Ok flow.Falls) (leave env1) now new
scoped_falls code env env1 now new h = follows_then (code ([] ∷ env) (memory_in now)) (λ next m'. fall (leave next)) (Ok flow.Falls) env1 (leave env1) now new new h (follows_fall (leave env1) new)

pub scoped_returns : (code : Code) (env env1 next : Scopes) (now new : State) (n : ℕ) → Follows (code ([] ∷ env) (memory_in now)) (Ok (flow.Returns n)) env1 now new → Follows (scoped code env (memory_in now)) (Ok (flow.Returns n)) next now new
scoped_returns code env env1 next now new n h = follows_return (code ([] ∷ env) (memory_in now)) (λ next m'. fall (leave next)) n env1 next now new (memory_in now) h

pub scoped_flows : (code : Code) (env env1 : Scopes) (now new : State) (f : Flow) → Follows (code ([] ∷ env) (memory_in now)) (Ok f) env1 now new → Follows (scoped code env (memory_in now)) (Ok f) (leave env1) now new
scoped_flows code env env1 now new flow.Falls h = scoped_falls code env env1 now new h
scoped_flows code env env1 now new (flow.Returns n) h = scoped_returns code env env1 (leave env1) now new n h

pub scoped_stops : (code : Code) (env env1 next : Scopes) (now new : State) (x : Stop) → Follows (code ([] ∷ env) (memory_in now)) (Err x) env1 now new → Follows (scoped code env (memory_in now)) (Err x) next now new
scoped_stops code env env1 next now new x h = follows_stop (code ([] ∷ env) (memory_in now)) (λ next m'. fall (leave next)) x env1 next now new (memory_in now) waits_left h

-- nothing is written before the first step of a block
pub waits_scoped : (calls : Calls) (body : List Stmt) (p : Place) (env : Scopes) (m : Memory) → Waits (events_of (scoped (block calls body p) env m))
waits_scoped calls [] p env m = waits_nil
waits_scoped calls (s ∷ rest) p env m = by (does calls s p ([] ∷ env) m)
  where
    ends : (r : Run) → Waits (events_of (and_then (doing (Step ∷ []) r) m (λ next m'. fall (leave next))))
    ends (Falls e es) = waits_step _
    ends (Returns n es) = waits_step es
    ends (Stuck r i k es) = waits_step es

    by : (r : Run) → Waits (events_of (and_then (doing (Step ∷ []) (and_then r m (block calls rest (shifted p (count_of s))))) m (λ next m'. fall (leave next))))
    by r = ends (and_then r m (block calls rest (shifted p (count_of s))))

-- ---- turns

same_turn : (r : Run) (m : Memory) (f : Code) →
    doing (Step ∷ []) (and_then r m (λ next m'. f (leave next) m')) ≡ and_then (doing (Step ∷ []) (and_then r m (λ next m'. fall (leave next)))) m f
same_turn (Falls e es) m f =
    doing-doing (Step ∷ []) es (f (leave e) (after es m)) ∙ ap (λ l. doing (Step ∷ l) (f (leave e) (after l m))) (sym (append-nil es))
same_turn (Returns n es) m f = refl
same_turn (Stuck r i s es) m f = refl

module _ (n k i : ℕ) (x : Name) (body : Code) (env : Scopes) (now : State) (whole : Run) (from : State) (e : k ≡ suc n) (onward : Onward whole from (turns k i x body env (memory_in now)) now) where
  one_turn : turns k i x body env (memory_in now) ≡ and_then (turn_run x i body env (memory_in now)) (memory_in now) (turns n (i + 1) x body)
  one_turn = ap (λ j. turns j i x body env (memory_in now)) e ∙ same_turn (body (((x, Num i) ∷ []) ∷ env) (memory_in now)) (memory_in now) (turns n (i + 1) x body)

  pub turn_next : (mid : State) (env1 : Scopes) → Follows (turn_run x i body env (memory_in now)) (Ok flow.Falls) env1 now mid → Onward whole from (turns n (i + 1) x body env1 (memory_in mid)) mid
  turn_next mid env1 h = record {
    onward = λ y next new f.
        onward.onward y next new
        (subst (λ (r : Run). Follows r y next now new) (sym one_turn) (follows_then (turn_run x i body env (memory_in now)) (turns n (i + 1) x body) y env1 next now mid new h f));
  }

  pub turn_return : (mid : State) (env1 next : Scopes) (v : ℕ) → Follows (turn_run x i body env (memory_in now)) (Ok (flow.Returns v)) env1 now mid → Follows whole (Ok (flow.Returns v)) next from mid
  turn_return mid env1 next v h =
      onward.onward (Ok (flow.Returns v)) next mid
      (subst (λ (r : Run). Follows r (Ok (flow.Returns v)) next now mid) (sym one_turn) (follows_return (turn_run x i body env (memory_in now)) (turns n (i + 1) x body) v env1 next now mid (memory_in now) h))

  pub turn_stop : (mid : State) (env1 next : Scopes) (y : Stop) → Follows (turn_run x i body env (memory_in now)) (Err y) env1 now mid → Follows whole (Err y) next from mid
  turn_stop mid env1 next y h =
      onward.onward (Err y) next mid
      (subst (λ (r : Run). Follows r (Err y) next now mid) (sym one_turn) (follows_stop (turn_run x i body env (memory_in now)) (turns n (i + 1) x body) y env1 next now mid (memory_in now) (waits_turns n (i + 1) x body) h))

pub turns_end : (k i : ℕ) (x : Name) (body : Code) (env : Scopes) (now : State) (whole : Run) (from : State) → k ≡ 0 → Onward whole from (turns k i x body env (memory_in now)) now → Follows whole (Ok flow.Falls) env from now
turns_end k i x body env now whole from e o =
    o.onward (Ok flow.Falls) env now (subst (λ (j : ℕ). Follows (turns j i x body env (memory_in now)) (Ok flow.Falls) env now now) (sym e) (follows_fall env now))

-- ---- a function that is entered

enters : (s : State) → Whole (Enters ∷ []) s s
enters s = record { memory = refl; meter = passes_zero s.meter; lasting = refl; kept = λ structs h. h }

leaves : (s : State) → Whole (Leaves ∷ []) s s
leaves s = record { memory = refl; meter = passes_zero s.meter; lasting = refl; kept = λ structs h. h }

ended_returns : (at n : ℕ) (r : Run) (env : Scopes) (now new : State) → Follows r (Ok (flow.Returns n)) env now new → Follows (ended at r) (Ok (flow.Returns n)) [] now new
ended_returns at n (Falls e es) env now new h = absurd h.by
ended_returns at n (Returns k es) env now new h = record { by = (h.by.0, whole_then es (Leaves ∷ []) now new new h.by.1 (leaves new)) }
ended_returns at n (Stuck r i s es) env now new h = absurd h.by

ended_falls : (at : ℕ) (r : Run) (env : Scopes) (now new : State) → Follows r (Ok flow.Falls) env now new → Follows (ended at r) (Err (stop.Stuck 0 at 0)) [] now new
ended_falls at (Falls e es) env now new h = record { by = (refl, refl, refl, h.by.1) }
ended_falls at (Returns k es) env now new h = absurd h.by
ended_falls at (Stuck r i s es) env now new h = absurd h.by

waits_leaves : Waits (Leaves ∷ [])
waits_leaves = record { quiet = λ m. refl }

ended_stops : (at : ℕ) (r : Run) (x : Stop) (env : Scopes) (now new : State) → Follows r (Err x) env now new → Follows (ended at r) (Err x) [] now new
ended_stops at (Falls e es) x env now new h = cut_run (Stuck 0 at 0 es) x [] now new h.by
ended_stops at (Returns k es) x env now new h = record { by = cut_more es (Leaves ∷ []) x now new waits_leaves h.by }
ended_stops at (Stuck r i s es) x env now new h = record { by = h.by }

module _ (calls : Calls) (at : ℕ) (f : Function) (vs : List Value) (now new : State) where
  pub called_returns : (n : ℕ) (env : Scopes) → Follows (block calls f.body (record { item = at; statement = 1 }) (frame_of f.params vs ∷ []) (memory_in now)) (Ok (flow.Returns n)) env now new → Follows (called calls at f vs (memory_in now)) (Ok (flow.Returns n)) [] now new
  called_returns n env h = follows_doing (Enters ∷ []) _ (Ok (flow.Returns n)) [] now now new (enters now) (ended_returns at n _ env now new h)

  pub called_falls : (env : Scopes) → Follows (block calls f.body (record { item = at; statement = 1 }) (frame_of f.params vs ∷ []) (memory_in now)) (Ok flow.Falls) env now new → Follows (called calls at f vs (memory_in now)) (Err (stop.Stuck 0 at 0)) [] now new
  called_falls env h = follows_doing (Enters ∷ []) _ (Err (stop.Stuck 0 at 0)) [] now now new (enters now) (ended_falls at _ env now new h)

  pub called_stops : (x : Stop) (env : Scopes) → Follows (block calls f.body (record { item = at; statement = 1 }) (frame_of f.params vs ∷ []) (memory_in now)) (Err x) env now new → Follows (called calls at f vs (memory_in now)) (Err x) [] now new
  called_stops x env h = follows_doing (Enters ∷ []) _ (Err x) [] now now new (enters now) (ended_stops at _ x env now new h)

waits_ended : (at : ℕ) (r : Run) → Waits (events_of (doing (Enters ∷ []) (ended at (doing (Step ∷ []) r))))
waits_ended at (Falls e es) = record { quiet = λ m. refl }
waits_ended at (Returns n es) = record { quiet = λ m. refl }
waits_ended at (Stuck r i s es) = record { quiet = λ m. refl }

-- nothing is written before the first step of a function
pub waits_called : (calls : Calls) (at : ℕ) (f : Function) (vs : List Value) (m : Memory) → Waits (events_of (called calls at f vs m))
waits_called calls at f vs m = by f.body
  where
    by : (body : List Stmt) → Waits (events_of (doing (Enters ∷ []) (ended at (block calls body (record { item = at; statement = 1 }) (frame_of f.params vs ∷ []) m))))
    by [] = record { quiet = λ m'. refl }
    by (s ∷ more) = waits_ended at _

-- ---- calls

-- a run that does not fall through
abbrev Ended : Run → Type 0
Ended (Falls env es) = ⊥
Ended (Returns n es) = Unit {0}
Ended (Stuck r i s es) = Unit {0}

called_ended : (calls : Calls) (at : ℕ) (f : Function) (vs : List Value) (m : Memory) → Ended (called calls at f vs m)
called_ended calls at f vs m = by (block calls f.body (record { item = at; statement = 1 }) (frame_of f.params vs ∷ []) m)
  where
    by : (r : Run) → Ended (doing (Enters ∷ []) (ended at r))
    by (Falls env es) = tt
    by (Returns n es) = tt
    by (Stuck r i s es) = tt

calls_ended : (items : List CItem) (calls : Calls) (at : ℕ) → ((g : Name) (vs : List Value) (m : Memory) → Ended (calls g vs m)) → (g : Name) (vs : List Value) (m : Memory) → Ended (calls_from calls at items g vs m)
calls_ended [] calls at h g vs m = h g vs m
calls_ended (AStruct s ∷ is) calls at h g vs m = calls_ended is calls (at + 1) h g vs m
calls_ended (AFunction f ∷ is) calls at h g vs m =
    calls_ended is (with_item calls at (AFunction f)) (at + 1) (λ g' vs' m'. one (bytes_eq f.name g') (called calls at f vs' m') (calls g' vs' m') (called_ended calls at f vs' m') (h g' vs' m')) g vs m
  where
    one : (b : Bool) (x y : Run) → Ended x → Ended y → Ended (elim b [ true ↦ x | false ↦ y ])
    one true x y p q = p
    one false x y p q = q

returned : (r : Run) (p : Place) (x : Result ℕ Stop) (now new : State) → Ended r → Follows r (as_flow x) [] now new → Follows (from_call p r as_return) (as_flow x) [] now new
returned (Falls env es) p x now new e h = absurd e
returned (Returns n es) p x now new e h = subst (λ (l : List Event). Follows (Returns n l) (as_flow x) [] now new) (sym (append-nil es)) h
returned (Stuck r i s es) p x now new e h = h

-- goes on with the number that a call returned
abbrev pub resumed : (Value → Run) → Run → Run
resumed f (Falls env es) = Falls env es
resumed f (Returns n es) = doing es (f (Num n))
resumed f (Stuck r i s es) = Stuck r i s es

module _ (calls : Calls) (g : Name) (p : Place) (env : Scopes) (m : Memory) (f : Value → Run) where
  resumed_call : (r : Run) → from_call p r f ≡ resumed f (from_call p r as_return)
  resumed_call (Falls e es) = refl
  resumed_call (Returns n es) = ap (λ l. doing l (f (Num n))) (sym (append-nil es))
  resumed_call (Stuck a b c es) = refl

  resumed_value : (o : Outcome) (k l : Value → Run) → ((v : Value) → k v ≡ resumed f (l v)) → with p o k ≡ resumed f (with p o l)
  resumed_value (Gives v) k l h = h v
  resumed_value (Fails r) k l h = refl

  pub resumed_args : (args : List Expr) (vs : List Value) → with_args p args env m vs (λ us. from_call p (calls g us m) f) ≡ resumed f (with_args p args env m vs (λ us. from_call p (calls g us m) as_return))
  resumed_args [] vs = resumed_call (calls g vs m)
  resumed_args (a ∷ more) vs =
      resumed_value (value_of a env m) (λ v. with_args p more env m (vs ++ v ∷ []) (λ us. from_call p (calls g us m) f)) (λ v. with_args p more env m (vs ++ v ∷ []) (λ us. from_call p (calls g us m) as_return))
      (λ v. resumed_args more (vs ++ v ∷ []))

  resumed_step : (r : Run) → doing (Step ∷ []) (resumed f r) ≡ resumed f (doing (Step ∷ []) r)
  resumed_step (Falls e es) = refl
  resumed_step (Returns n es) = doing-doing (Step ∷ []) es (f (Num n))
  resumed_step (Stuck a b c es) = refl

  -- a statement that begins by a call, by the call
  pub resumed_begun : (args : List Expr) → doing (Step ∷ []) (with_args p args env m [] (λ us. from_call p (calls g us m) f)) ≡ resumed f (call_begun calls g args p env m)
  resumed_begun args = ap (doing (Step ∷ [])) (resumed_args args []) ∙ resumed_step (with_args p args env m [] (λ us. from_call p (calls g us m) as_return))

pub resumed_returns : (f : Value → Run) (r : Run) (n : ℕ) (x : Result Flow Stop) (next : Scopes) (now mid new : State) → Follows r (Ok (flow.Returns n)) [] now mid → Follows (f (Num n)) x next mid new → Follows (resumed f r) x next now new
resumed_returns f (Falls e es) n x next now mid new h k = absurd h.by
resumed_returns f (Returns v es) n x next now mid new h k =
    follows_doing es (f (Num v)) x next now mid new h.by.1 (subst (λ (i : ℕ). Follows (f (Num i)) x next mid new) h.by.0 k)
resumed_returns f (Stuck a b c es) n x next now mid new h k = absurd h.by

pub resumed_stops : (f : Value → Run) (r : Run) (x : Stop) (env next : Scopes) (now new : State) → ((v : Value) → Waits (events_of (f v))) → Follows r (Err x) env now new → Follows (resumed f r) (Err x) next now new
resumed_stops f (Falls e es) x env next now new w h = record { by = h.by }
resumed_stops f (Returns v es) x env next now new w h =
    cut_run (doing es (f (Num v))) x next now new (subst (λ (l : List Event). IsCut l x now new) (sym (events-doing es (f (Num v)))) (cut_more es (events_of (f (Num v))) x now new (w (Num v)) h.by))
resumed_stops f (Stuck a b c es) x env next now new w h = record { by = h.by }

-- the call behind its arguments
pub call_follows : (items : List CItem) (g : Name) (args : List Expr) (vs : List Value) (p : Place) (env : Scopes) (x : Result ℕ Stop) (now mid new : State) →
    ((f : List Value → Run) → with_args p args env (memory_in now) [] f ≡ f vs) → Whole (Step ∷ []) now mid → Follows (calls_of items g vs (memory_in mid)) (as_flow x) [] mid new →
    Follows (call_begun (calls_of items) g args p env (memory_in now)) (as_flow x) [] now new
call_follows items g args vs p env x now mid new are tick h =
    let m = memory_in now in
    let same : Follows (calls_of items g vs m) (as_flow x) [] mid new = subst (λ (n : Memory). Follows (calls_of items g vs n) (as_flow x) [] mid new) tick.memory h in
    let done = calls_ended items no_calls 0 (λ g' vs' m'. tt) g vs m in
    subst (λ (r : Run). Follows (doing (Step ∷ []) r) (as_flow x) [] now new) (sym (are (λ us. from_call p (calls_of items g us m) as_return)))
    (follows_doing (Step ∷ []) (from_call p (calls_of items g vs m) as_return) (as_flow x) [] now mid new tick (returned (calls_of items g vs m) p x mid new done same))

-- ---- statements that begin by a call

module _ (calls : Calls) (x g : Name) (args : List Expr) (p : Place) (env : Scopes) (now new : State) where
  pub declare_called : (n : ℕ) → Follows (call_begun calls g args p env (memory_in now)) (Ok (flow.Returns n)) [] now new → Follows (begun calls (DeclNumber x (FromCall g args)) p env (memory_in now)) (Ok flow.Falls) (declare x (Num n) env) now new
  declare_called n h =
      let f : Value → Run = λ v. fall (declare x v env) in
      subst (λ (r : Run). Follows r (Ok flow.Falls) (declare x (Num n) env) now new) (sym (resumed_begun calls g p env (memory_in now) f args))
      (resumed_returns f (call_begun calls g args p env (memory_in now)) n (Ok flow.Falls) (declare x (Num n) env) now new new h (follows_fall (declare x (Num n) env) new))

  pub declare_wants : (n : ℕ) (next : Scopes) → Follows (call_begun calls g args p env (memory_in now)) (Ok (flow.Returns n)) [] now new → Follows (begun calls (DeclNumber x (FromCall g args)) p env (memory_in now)) (Err stop.OutOfMemory) next now new
  declare_wants n next h = follows_late (begun calls (DeclNumber x (FromCall g args)) p env (memory_in now)) (declare x (Num n) env) next now new flow.Falls (declare_called n h)

  pub declare_stops : (y : Stop) (next : Scopes) → Follows (call_begun calls g args p env (memory_in now)) (Err y) [] now new → Follows (begun calls (DeclNumber x (FromCall g args)) p env (memory_in now)) (Err y) next now new
  declare_stops y next h =
      let f : Value → Run = λ v. fall (declare x v env) in
      subst (λ (r : Run). Follows r (Err y) next now new) (sym (resumed_begun calls g p env (memory_in now) f args))
      (resumed_stops f (call_begun calls g args p env (memory_in now)) y [] next now new (λ v. waits_nil) h)

  pub assign_called : (n : ℕ) → Follows (call_begun calls g args p env (memory_in now)) (Ok (flow.Returns n)) [] now new → Follows (begun calls (Assign x (FromCall g args)) p env (memory_in now)) (Ok flow.Falls) (assign x (Num n) env) now new
  assign_called n h =
      let f : Value → Run = λ v. fall (assign x v env) in
      subst (λ (r : Run). Follows r (Ok flow.Falls) (assign x (Num n) env) now new) (sym (resumed_begun calls g p env (memory_in now) f args))
      (resumed_returns f (call_begun calls g args p env (memory_in now)) n (Ok flow.Falls) (assign x (Num n) env) now new new h (follows_fall (assign x (Num n) env) new))

  pub assign_stops : (y : Stop) (next : Scopes) → Follows (call_begun calls g args p env (memory_in now)) (Err y) [] now new → Follows (begun calls (Assign x (FromCall g args)) p env (memory_in now)) (Err y) next now new
  assign_stops y next h =
      let f : Value → Run = λ v. fall (assign x v env) in
      subst (λ (r : Run). Follows r (Err y) next now new) (sym (resumed_begun calls g p env (memory_in now) f args))
      (resumed_stops f (call_begun calls g args p env (memory_in now)) y [] next now new (λ v. waits_nil) h)

-- ---- choices and loops, behind their step

module _ (calls : Calls) (p : Place) (env : Scopes) (now mid new : State) (res : Result Flow Stop) (next : Scopes) (tick : Whole (Step ∷ []) now mid) where
  -- what a statement does in the memory behind its step
  behind_step : (s : Stmt) → Follows (does calls s p env (memory_in mid)) res next mid new → Follows (begun calls s p env (memory_in now)) res next now new
  behind_step s h = follows_doing (Step ∷ []) (does calls s p env (memory_in now)) res next now mid new tick (subst (λ (m : Memory). Follows (does calls s p env m) res next mid new) tick.memory h)

  pub choice_first : (t : Expr) (ys ns : List Stmt) → Gives (Truth true) ≡ value_of t env (memory_in mid) → Follows (scoped (block calls ys (shifted p 1)) env (memory_in mid)) res next mid new →
      Follows (begun calls (If t ys ns) p env (memory_in now)) res next now new
  choice_first t ys ns e h = behind_step (If t ys ns) (rw (does-If calls t ys ns p env (memory_in mid), ← e) h)

  pub choice_second : (t : Expr) (ys ns : List Stmt) → Gives (Truth false) ≡ value_of t env (memory_in mid) → Follows (scoped (block calls ns (shifted p (1 + count_all ys))) env (memory_in mid)) res next mid new →
      Follows (begun calls (If t ys ns) p env (memory_in now)) res next now new
  choice_second t ys ns e h = behind_step (If t ys ns) (rw (does-If calls t ys ns p env (memory_in mid), ← e) h)

  pub loop_turns : (x b : Name) (body : List Stmt) (n : ℕ) → Gives (Num n) ≡ given (lookup env b) → Follows (turns n 0 x (block calls body (shifted p 1)) env (memory_in mid)) res next mid new →
      Follows (begun calls (For x b body) p env (memory_in now)) res next now new
  loop_turns x b body n e h = behind_step (For x b body) (rw (does-For calls x b body p env (memory_in mid), ← e) h)

pub choice_wants : (calls : Calls) (t : Expr) (ys ns : List Stmt) (p : Place) (env next : Scopes) (now mid : State) → Whole (Step ∷ []) now mid → Gives (Truth false) ≡ value_of t env (memory_in mid) →
    Follows (begun calls (If t ys ns) p env (memory_in now)) (Err stop.OutOfMemory) next now mid
choice_wants calls t ys ns p env next now mid tick e =
    choice_second calls p env now mid mid (Err stop.OutOfMemory) next tick t ys ns e
    (follows_want (scoped (block calls ns (shifted p (1 + count_all ys))) env (memory_in mid)) next mid (waits_scoped calls ns (shifted p (1 + count_all ys)) env (memory_in mid)))

pub turn_stops : (x : Name) (i : ℕ) (body : Code) (env env1 next : Scopes) (now mid new : State) (y : Stop) → Whole (Step ∷ []) now mid → Follows (body (((x, Num i) ∷ []) ∷ env) (memory_in mid)) (Err y) env1 mid new →
    Follows (turn_run x i body env (memory_in now)) (Err y) next now new
turn_stops x i body env env1 next now mid new y tick h =
    let m = memory_in now in
    let same : Follows (body (((x, Num i) ∷ []) ∷ env) m) (Err y) env1 mid new = subst (λ (n : Memory). Follows (body (((x, Num i) ∷ []) ∷ env) n) (Err y) env1 mid new) tick.memory h in
    follows_doing (Step ∷ []) (and_then (body (((x, Num i) ∷ []) ∷ env) m) m (λ next m'. fall (leave next))) (Err y) next now mid new tick
    (follows_stop (body (((x, Num i) ∷ []) ∷ env) m) (λ next m'. fall (leave next)) y env1 next mid new m waits_left same)

pub turn_flows : (x : Name) (i : ℕ) (body : Code) (env env1 : Scopes) (now mid new : State) (f : Flow) → Whole (Step ∷ []) now mid → Follows (body (((x, Num i) ∷ []) ∷ env) (memory_in mid)) (Ok f) env1 mid new →
    Follows (turn_run x i body env (memory_in now)) (Ok f) (leave env1) now new
turn_flows x i body env env1 now mid new f tick h =
    let m = memory_in now in
    follows_doing (Step ∷ []) (and_then (body (((x, Num i) ∷ []) ∷ env) m) m (λ next m'. fall (leave next))) (Ok f) (leave env1) now mid new tick
    (subst (λ (n : Memory). Follows (and_then (body (((x, Num i) ∷ []) ∷ env) n) n (λ next m'. fall (leave next))) (Ok f) (leave env1) mid new) tick.memory (by f h))
  where
    by : (f : Flow) → Follows (body (((x, Num i) ∷ []) ∷ env) (memory_in mid)) (Ok f) env1 mid new → Follows (and_then (body (((x, Num i) ∷ []) ∷ env) (memory_in mid)) (memory_in mid) (λ next m'. fall (leave next))) (Ok f) (leave env1) mid new
    by flow.Falls h = follows_then (body (((x, Num i) ∷ []) ∷ env) (memory_in mid)) (λ next m'. fall (leave next)) (Ok flow.Falls) env1 (leave env1) mid new new h (follows_fall (leave env1) new)
    by (flow.Returns n) h = follows_return (body (((x, Num i) ∷ []) ∷ env) (memory_in mid)) (λ next m'. fall (leave next)) n env1 (leave env1) mid new (memory_in mid) h
