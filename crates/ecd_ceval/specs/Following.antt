-- How an evaluation follows a run.
use Rattle.std.specs.Prelude.{ℕ, ◌≡◌, ◌≤◌, ◌<◌, List, [], ◌∷◌, map, take, Result, Ok, Err}
use Rattle.ecd_cast.specs.declared.tree.CItem.{CItem}
use Rattle.ecd_cast.specs.declared.tree.StructDecl.{StructDecl}
use Rattle.ecd_cast.specs.declared.tree.Expr.{Expr}
use Rattle.ecd_cast.specs.declared.tree.Stmt.{Stmt}
use Rattle.ecd_cast.specs.declared.value.Value.{Value}
use Rattle.ecd_cast.specs.declared.value.Value.TheVariants.{Number as Num, Truth, Bytes as Ptr, Struct as Str}
use Rattle.ecd_cast.specs.Memory.{Name, Memory, Event, Step, after, steps_of, first_steps}
use Rattle.ecd_cast.specs.Expressions.{Scopes}
use Rattle.ecd_cast.specs.Meaning as meaning
use Rattle.ecd_cast.specs.Meaning.{Run, Falls, Returns, Stuck, Calls, calls_of, doing, does, with_args, from_call, events_of, fall}
use Rattle.ecd_ceval.specs.declared.meter.Meter.TheVariants.{Left}
use Rattle.ecd_ceval.specs.declared.stop.Flow.{Flow}
use Rattle.ecd_ceval.specs.declared.stop.Flow.TheVariants as flow
use Rattle.ecd_ceval.specs.declared.stop.Stop.{Stop}
use Rattle.ecd_ceval.specs.declared.stop.Stop.TheVariants as stop
use Rattle.ecd_ceval.specs.declared.state.State.{State}
use Rattle.ecd_ceval.specs.Blocks.{memory_of, lasting_of, AreAllHeld}
use Rattle.ecd_ceval.specs.Steps.{Passes}

abbrev pub memory_in : State → Memory
memory_in s = memory_of s.blocks.items

-- all of these events were done
pub record Whole (es : List Event) (old new : State) : Type 0 where
  pub memory : memory_in new ≡ after es (memory_in old)
  pub meter : Passes old.meter (steps_of es) new.meter
  pub lasting : map lasting_of new.blocks.items ≡ map lasting_of old.blocks.items
  pub kept : (structs : List StructDecl) → AreAllHeld structs old.blocks.items → AreAllHeld structs new.blocks.items

-- the events of so many steps were done, which are at most all
pub record Part (es : List Event) (steps : ℕ) (old new : State) : Type 0 where
  pub few : steps ≤ steps_of es
  pub memory : memory_in new ≡ after (first_steps steps es) (memory_in old)
  pub meter : Passes old.meter steps new.meter
  pub lasting : map lasting_of new.blocks.items ≡ map lasting_of old.blocks.items
  pub kept : (structs : List StructDecl) → AreAllHeld structs old.blocks.items → AreAllHeld structs new.blocks.items

-- the limit came before the last step
pub record Spends (es : List Event) (old new : State) : Type 0 where
  pub steps : ℕ
  pub over : steps < steps_of es
  pub spent : new.meter ≡ Left 0
  pub part : Part es steps old new

-- memory was wanting
pub record Wants (es : List Event) (old new : State) : Type 0 where
  pub steps : ℕ
  pub part : Part es steps old new

-- the evaluation went no further than this
abbrev pub IsCut : List Event → Stop → State → State → Type 0
IsCut es stop.Spent old new = Spends es old new
IsCut es stop.OutOfMemory old new = Wants es old new
IsCut es (stop.Stuck r i s) old new = ⊥

-- a run that is stuck, and how the evaluation stopped
abbrev pub IsStuckOrCut : (reason item statement : ℕ) → List Event → Stop → State → State → Type 0
IsStuckOrCut r i s es (stop.Stuck a b c) old new = (a ≡ r) × (b ≡ i) × (c ≡ s) × Whole es old new
IsStuckOrCut r i s es stop.Spent old new = Spends es old new
IsStuckOrCut r i s es stop.OutOfMemory old new = Wants es old new

abbrev pub FollowsBy : Run → Result Flow Stop → Scopes → State → State → Type 0
FollowsBy (Falls next es) (Ok flow.Falls) env old new = (env ≡ next) × Whole es old new
FollowsBy (Falls next es) (Ok (flow.Returns k)) env old new = ⊥
FollowsBy (Falls next es) (Err s) env old new = IsCut es s old new
FollowsBy (Returns n es) (Ok flow.Falls) env old new = ⊥
FollowsBy (Returns n es) (Ok (flow.Returns k)) env old new = (k ≡ n) × Whole es old new
FollowsBy (Returns n es) (Err s) env old new = IsCut es s old new
FollowsBy (Stuck r i s es) (Ok f) env old new = ⊥
FollowsBy (Stuck r i s es) (Err x) env old new = IsStuckOrCut r i s es x old new

-- The run ends as the evaluation does, or the evaluation was cut; the state behind is as the run makes it.
pub record Follows (r : Run) (result : Result Flow Stop) (env : Scopes) (old new : State) : Type 0 where
  pub by : FollowsBy r result env old new

-- a number that is returned
abbrev pub as_flow : Result ℕ Stop → Result Flow Stop
as_flow (Ok n) = Ok (flow.Returns n)
as_flow (Err s) = Err s

-- ---- runs

-- a statement that is begun
abbrev pub begun : Calls → Stmt → meaning.Place → Scopes → Memory → Run
begun calls s p env m = doing (Step ∷ []) (does calls s p env m)

-- what the functions before an item do
abbrev pub calls_before : List CItem → ℕ → Calls
calls_before items n = calls_of (take n items)

abbrev pub as_return : Value → Run
as_return (Num n) = Returns n []
as_return (Truth b) = fall []
as_return (Ptr block offset) = fall []
as_return (Str block) = fall []

-- a statement that begins by this call, up to the number that the call returns
abbrev pub call_begun : Calls → Name → List Expr → meaning.Place → Scopes → Memory → Run
call_begun calls g args p env m = doing (Step ∷ []) (with_args p args env m [] (λ vs. from_call p (calls g vs m) as_return))

-- a turn of a loop over x, which holds i
abbrev pub turn_run : Name → ℕ → meaning.Code → Scopes → Memory → Run
turn_run x i body env m = doing (Step ∷ []) (meaning.and_then (body (((x, Num i) ∷ []) ∷ env) m) m (λ next m'. fall (meaning.leave next)))
