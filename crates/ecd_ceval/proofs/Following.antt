-- Following a run that has parts.
use Rattle.std.proofs.Common.{◌≡◌, ℕ, zero, suc, ◌+◌, ◌<◌, ◌≤◌, List, [], ◌∷◌, ◌++◌, length, take, drop, refl, ap, sym, subst, ◌∙◌, arith, append-nil}
use Rattle.std.specs.Prelude.{Result, Ok, Err, map}
use Rattle.ecd_cast.specs.Memory.{Memory, Event, Step, Enters, Leaves, WritesByte, WritesCell, after, event, steps_of, first_steps}
use Rattle.ecd_cast.specs.Expressions.{Scopes}
use Rattle.ecd_cast.specs.Meaning.{Run, Falls, Returns, Stuck, doing, and_then, events_of, Code}
use Rattle.ecd_calculus.proofs.Calculus.{steps-append, after-append}
use Rattle.std.proofs.lemmas.List.{drop_all, take_all}
use Rattle.ecd_calculus.proofs.Frame.{steps}
use Rattle.ecd_ceval.specs.declared.blocks.Held.{Held}
use Rattle.ecd_ceval.specs.declared.meter.Meter.{Meter}
use Rattle.ecd_ceval.specs.declared.meter.Meter.TheVariants.{Left, Taken}
use Rattle.ecd_ceval.specs.declared.stop.Flow.{Flow}
use Rattle.ecd_ceval.specs.declared.stop.Flow.TheVariants as flow
use Rattle.ecd_ceval.specs.declared.stop.Stop.{Stop}
use Rattle.ecd_ceval.specs.declared.stop.Stop.TheVariants as stop
use Rattle.ecd_ceval.specs.declared.state.State.{State}
use Rattle.ecd_ceval.specs.Blocks.{block_of, lasting_of, AreAllHeld}
use Rattle.ecd_ceval.specs.Steps.{Passes}
use Rattle.ecd_ceval.specs.Following.{memory_in, Whole, Part, IsCut, Follows}

-- ---- meters

pub passes_zero : (m : Meter) → Passes m 0 m
passes_zero (Left a) = omega arith
passes_zero (Taken a) = omega arith

pub passes_then : (a b c : Meter) (n k : ℕ) → Passes a n b → Passes b k c → Passes a (n + k) c
passes_then (Left a) (Left b) (Left c) n k h g = omega arith
passes_then (Taken a) (Taken b) (Taken c) n k h g = omega arith
passes_then (Left a) (Left b) (Taken c) n k h g = absurd g
passes_then (Left a) (Taken b) c n k h g = absurd h
passes_then (Taken a) (Left b) c n k h g = absurd h
passes_then (Taken a) (Taken b) (Left c) n k h g = absurd g

-- ---- the first steps of events one after another

pub first-then : (a b : List Event) (k : ℕ) → first_steps (steps_of a + k) (a ++ b) ≡ a ++ first_steps k b
first-then [] b k = ap (λ n. first_steps n b) (omega arith)
first-then (WritesByte x y z ∷ a) b k = ap (λ l. WritesByte x y z ∷ l) (first-then a b k)
first-then (WritesCell x y z ∷ a) b k = ap (λ l. WritesCell x y z ∷ l) (first-then a b k)
first-then (Enters ∷ a) b k = ap (λ l. Enters ∷ l) (first-then a b k)
first-then (Leaves ∷ a) b k = ap (λ l. Leaves ∷ l) (first-then a b k)
first-then (Step ∷ a) b k =
    let one : 1 + steps_of a + k ≡ suc (steps_of a + k) = omega arith in
    ap (λ n. first_steps n (Step ∷ (a ++ b))) one ∙ ap (λ l. Step ∷ l) (first-then a b k)

-- events that write nothing before their first step
pub record Waits (es : List Event) : Type 0 where
  pub quiet : (m : Memory) → after (first_steps 0 es) m ≡ m

pub waits_nil : Waits []
waits_nil = record { quiet = λ m. refl }

pub waits_step : (es : List Event) → Waits (Step ∷ es)
waits_step es = record { quiet = λ m. refl }

-- what comes behind the last step that counts
pub first_more : (a b : List Event) (k : ℕ) (m : Memory) → k ≤ steps_of a → Waits b → after (first_steps k (a ++ b)) m ≡ after (first_steps k a) m
first_more [] b k m le w = let none : k ≡ 0 = omega arith in ap (λ n. after (first_steps n b) m) none ∙ w.quiet m
first_more (WritesByte x y z ∷ a) b k m le w = first_more a b k (event (WritesByte x y z) m) le w
first_more (WritesCell x y z ∷ a) b k m le w = first_more a b k (event (WritesCell x y z) m) le w
first_more (Enters ∷ a) b k m le w = first_more a b k m le w
first_more (Leaves ∷ a) b k m le w = first_more a b k m le w
first_more (Step ∷ a) b zero m le w = refl
first_more (Step ∷ a) b (suc k) m le w = first_more a b k m (omega arith) w

-- where a step is left, nothing comes behind
pub first_fewer : (a b : List Event) (k : ℕ) → k < steps_of a → first_steps k (a ++ b) ≡ first_steps k a
first_fewer [] b k lt = absurd (omega arith)
first_fewer (WritesByte x y z ∷ a) b k lt = ap (λ l. WritesByte x y z ∷ l) (first_fewer a b k lt)
first_fewer (WritesCell x y z ∷ a) b k lt = ap (λ l. WritesCell x y z ∷ l) (first_fewer a b k lt)
first_fewer (Enters ∷ a) b k lt = ap (λ l. Enters ∷ l) (first_fewer a b k lt)
first_fewer (Leaves ∷ a) b k lt = ap (λ l. Leaves ∷ l) (first_fewer a b k lt)
first_fewer (Step ∷ a) b zero lt = refl
first_fewer (Step ∷ a) b (suc k) lt = ap (λ l. Step ∷ l) (first_fewer a b k (omega arith))

-- ---- whole and part

pub whole_none : (s : State) → Whole [] s s
whole_none s = record { memory = refl; meter = passes_zero s.meter; lasting = refl; kept = λ structs h. h }

pub whole_then : (a b : List Event) (old mid new : State) → Whole a old mid → Whole b mid new → Whole (a ++ b) old new
whole_then a b old mid new h k = record {
  memory = k.memory ∙ (ap (after b) h.memory ∙ sym (after-append a b (memory_in old)));
  meter = subst (λ n. Passes old.meter n new.meter) (sym (steps-append a b)) (passes_then old.meter mid.meter new.meter (steps_of a) (steps_of b) h.meter k.meter);
  lasting = k.lasting ∙ h.lasting;
  kept = λ structs a. k.kept structs (h.kept structs a);
}

pub part_then : (a b : List Event) (k : ℕ) (old mid new : State) → Whole a old mid → Part b k mid new → Part (a ++ b) (steps_of a + k) old new
part_then a b k old mid new h p = record {
  few = let e = steps-append a b in let f = p.few in omega arith;
  memory = p.memory ∙ (ap (after (first_steps k b)) h.memory ∙ (sym (after-append a (first_steps k b) (memory_in old)) ∙ ap (λ l. after l (memory_in old)) (sym (first-then a b k))));
  meter = passes_then old.meter mid.meter new.meter (steps_of a) k h.meter p.meter;
  lasting = p.lasting ∙ h.lasting;
  kept = λ structs a. p.kept structs (h.kept structs a);
}

pub part_whole : (a : List Event) (old new : State) → Whole a old new → Part a (steps_of a) old new
part_whole a old new h = record {
  few = omega arith;
  memory = h.memory ∙ ap (λ l. after l (memory_in old)) (sym (steps.whole a));
  meter = h.meter;
  lasting = h.lasting;
  kept = h.kept;
}

pub part_more : (a b : List Event) (k : ℕ) (old new : State) → Waits b → Part a k old new → Part (a ++ b) k old new
part_more a b k old new w p = record {
  few = let e = steps-append a b in let f = p.few in omega arith;
  memory = p.memory ∙ sym (first_more a b k (memory_in old) p.few w);
  meter = p.meter;
  lasting = p.lasting;
  kept = p.kept;
}

part_fewer : (a b : List Event) (k : ℕ) (old new : State) → k < steps_of a → Part a k old new → Part (a ++ b) k old new
part_fewer a b k old new lt p = record {
  few = let e = steps-append a b in let f = p.few in omega arith;
  memory = p.memory ∙ ap (λ l. after l (memory_in old)) (sym (first_fewer a b k lt));
  meter = p.meter;
  lasting = p.lasting;
  kept = p.kept;
}

-- ---- cuts

pub cut_then : (a b : List Event) (s : Stop) (old mid new : State) → Whole a old mid → IsCut b s mid new → IsCut (a ++ b) s old new
cut_then a b stop.Spent old mid new h c = record {
  steps = steps_of a + c.steps;
  over = let e = steps-append a b in let o = c.over in omega arith;
  spent = c.spent;
  part = part_then a b c.steps old mid new h c.part;
}
cut_then a b stop.OutOfMemory old mid new h c = record { steps = steps_of a + c.steps; part = part_then a b c.steps old mid new h c.part }
cut_then a b (stop.Stuck r i s) old mid new h c = absurd c

pub cut_more : (a b : List Event) (s : Stop) (old new : State) → Waits b → IsCut a s old new → IsCut (a ++ b) s old new
cut_more a b stop.Spent old new w c = record {
  steps = c.steps;
  over = let e = steps-append a b in let o = c.over in omega arith;
  spent = c.spent;
  part = part_fewer a b c.steps old new c.over c.part;
}
cut_more a b stop.OutOfMemory old new w c = record { steps = c.steps; part = part_more a b c.steps old new w c.part }
cut_more a b (stop.Stuck r i s) old new w c = absurd c

-- ---- runs

-- behind events that were done
pub follows_doing : (es : List Event) (r : Run) (x : Result Flow Stop) (env : Scopes) (old mid new : State) → Whole es old mid → Follows r x env mid new → Follows (doing es r) x env old new
follows_doing es (Falls next ds) (Ok flow.Falls) env old mid new h f = record { by = (f.by.0, whole_then es ds old mid new h f.by.1) }
follows_doing es (Falls next ds) (Ok (flow.Returns k)) env old mid new h f = absurd f.by
follows_doing es (Falls next ds) (Err s) env old mid new h f = record { by = cut_then es ds s old mid new h f.by }
follows_doing es (Returns n ds) (Ok flow.Falls) env old mid new h f = absurd f.by
follows_doing es (Returns n ds) (Ok (flow.Returns k)) env old mid new h f = record { by = (f.by.0, whole_then es ds old mid new h f.by.1) }
follows_doing es (Returns n ds) (Err s) env old mid new h f = record { by = cut_then es ds s old mid new h f.by }
follows_doing es (Stuck r i s ds) (Ok k) env old mid new h f = absurd f.by
follows_doing es (Stuck r i s ds) (Err (stop.Stuck a b c)) env old mid new h f = record { by = (f.by.0, f.by.1, f.by.2, whole_then es ds old mid new h f.by.3) }
follows_doing es (Stuck r i s ds) (Err stop.Spent) env old mid new h f = record { by = cut_then es ds stop.Spent old mid new h f.by }
follows_doing es (Stuck r i s ds) (Err stop.OutOfMemory) env old mid new h f = record { by = cut_then es ds stop.OutOfMemory old mid new h f.by }

-- a piece that falls through, and the rest
pub follows_then : (r : Run) (f : Code) (x : Result Flow Stop) (env next : Scopes) (old mid new : State) → Follows r (Ok flow.Falls) env old mid → Follows (f env (memory_in mid)) x next mid new →
    Follows (and_then r (memory_in old) f) x next old new
follows_then (Falls e es) f x env next old mid new h k =
    let at : Follows (f e (after es (memory_in old))) x next mid new =
    subst (λ (n : Memory). Follows (f e n) x next mid new) h.by.1.memory (subst (λ (g : Scopes). Follows (f g (memory_in mid)) x next mid new) h.by.0 k) in
    follows_doing es (f e (after es (memory_in old))) x next old mid new h.by.1 at
follows_then (Returns n es) f x env next old mid new h k = absurd h.by
follows_then (Stuck r i s es) f x env next old mid new h k = absurd h.by

-- a piece that returns
pub follows_return : (r : Run) (f : Code) (n : ℕ) (env next : Scopes) (old new : State) (m : Memory) → Follows r (Ok (flow.Returns n)) env old new → Follows (and_then r m f) (Ok (flow.Returns n)) next old new
follows_return (Falls e es) f n env next old new m h = absurd h.by
follows_return (Returns k es) f n env next old new m h = record { by = h.by }
follows_return (Stuck r i s es) f n env next old new m h = absurd h.by

-- code that writes nothing before its first step
pub record WaitsCode (f : Code) : Type 0 where
  pub waits : (env : Scopes) (m : Memory) → Waits (events_of (f env m))

pub events-doing : (es : List Event) (r : Run) → events_of (doing es r) ≡ es ++ events_of r
events-doing es (Falls env ds) = refl
events-doing es (Returns n ds) = refl
events-doing es (Stuck r i s ds) = refl

pub cut_run : (r : Run) (s : Stop) (env : Scopes) (old new : State) → IsCut (events_of r) s old new → Follows r (Err s) env old new
cut_run (Falls e es) s env old new c = record { by = c }
cut_run (Returns n es) s env old new c = record { by = c }
cut_run (Stuck r i k es) (stop.Stuck a b d) env old new c = absurd c
cut_run (Stuck r i k es) stop.Spent env old new c = record { by = c }
cut_run (Stuck r i k es) stop.OutOfMemory env old new c = record { by = c }

-- a piece that is stopped
pub follows_stop : (r : Run) (f : Code) (s : Stop) (env next : Scopes) (old new : State) (m : Memory) → WaitsCode f → Follows r (Err s) env old new → Follows (and_then r m f) (Err s) next old new
follows_stop (Falls e es) f s env next old new m w h =
    cut_run (doing es (f e (after es m))) s next old new
    (subst (λ (l : List Event). IsCut l s old new) (sym (events-doing es (f e (after es m)))) (cut_more es (events_of (f e (after es m))) s old new (w.waits e (after es m)) h.by))
follows_stop (Returns k es) f s env next old new m w h = record { by = h.by }
follows_stop (Stuck r i k es) f s env next old new m w h = record { by = h.by }

-- ---- stops

-- the limit is reached before the first step
pub follows_spent : (r : Run) (env : Scopes) (old : State) → old.meter ≡ Left 0 → Follows (doing (Step ∷ []) r) (Err stop.Spent) env old old
follows_spent r env old e =
    cut_run (doing (Step ∷ []) r) stop.Spent env old old
    (subst (λ (l : List Event). IsCut l stop.Spent old old) (sym (events-doing (Step ∷ []) r))
    (record { steps = 0; over = omega arith; spent = e; part = record { few = omega arith; memory = refl; meter = passes_zero old.meter; lasting = refl; kept = λ structs h. h } }))

-- memory is wanting before the first step
pub follows_want : (r : Run) (env : Scopes) (old : State) → Waits (events_of r) → Follows r (Err stop.OutOfMemory) env old old
follows_want r env old w =
    cut_run r stop.OutOfMemory env old old (record { steps = 0; part = record { few = omega arith; memory = sym (w.quiet (memory_in old)); meter = passes_zero old.meter; lasting = refl; kept = λ structs h. h } })

-- memory is wanting behind the whole run
pub follows_late : (r : Run) (env next : Scopes) (old new : State) (f : Flow) → Follows r (Ok f) env old new → Follows r (Err stop.OutOfMemory) next old new
follows_late (Falls e es) env next old new flow.Falls h = record { by = record { steps = steps_of es; part = part_whole es old new h.by.1 } }
follows_late (Falls e es) env next old new (flow.Returns k) h = absurd h.by
follows_late (Returns n es) env next old new flow.Falls h = absurd h.by
follows_late (Returns n es) env next old new (flow.Returns k) h = record { by = record { steps = steps_of es; part = part_whole es old new h.by.1 } }
follows_late (Stuck r i k es) env next old new f h = absurd h.by

pub waits_doing : (r : Run) → Waits (events_of (doing (Step ∷ []) r))
waits_doing (Falls env ds) = waits_step ds
waits_doing (Returns n ds) = waits_step ds
waits_doing (Stuck r i s ds) = waits_step ds

-- memory is wanting before the first step, and the state is as it was
pub want_begun : (r : Run) (env : Scopes) (old new : State) → new.blocks.items ≡ old.blocks.items → new.meter ≡ old.meter → Follows (doing (Step ∷ []) r) (Err stop.OutOfMemory) env old new
want_begun r env old new e k =
    cut_run (doing (Step ∷ []) r) stop.OutOfMemory env old new
    (record {
      steps = 0;
      part = record {
        few = omega arith;
        memory = ap (map block_of) e ∙ sym ((waits_doing r).quiet (memory_in old));
        meter = subst (λ (m : Meter). Passes old.meter 0 m) (sym k) (passes_zero old.meter);
        lasting = ap (map lasting_of) e;
        kept = λ structs a. subst (λ (l : List Held). AreAllHeld structs l) (sym e) a;
      };
    })

-- a list that is written back as it was
pub same_items : {A : Type 0} (n : ℕ) (new old : List A) → new ≡ old → length old ≡ n → take n (new ++ drop (length new) old) ≡ old
same_items n new old e h =
    ap (λ l. take n (l ++ drop (length l) old)) e ∙
    (ap (λ l. take n (old ++ l)) (drop_all (length old) old (omega arith)) ∙ (ap (take n) (append-nil old) ∙ take_all n old (omega arith)))

-- a list that is written back, of the same length
pub written_items : {A : Type 0} (n : ℕ) (new old : List A) → length new ≡ n → length old ≡ n → take n (new ++ drop (length new) old) ≡ new
written_items n new old e h =
    ap (λ l. take n (new ++ l)) (drop_all (length new) old (omega arith)) ∙ (ap (take n) (append-nil new) ∙ take_all n new (omega arith))
