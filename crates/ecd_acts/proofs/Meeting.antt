-- What is known of a run, from what is known of its parts.
use Rattle.std.proofs.Common.{◌≡◌, ℕ, suc, ◌+◌, List, [], ◌∷◌, ◌++◌, sym, subst, arith}
use Rattle.ecd_cast.specs.Memory.{Memory, Event, Step, after, writes_of, steps_of}
use Rattle.ecd_cast.specs.Expressions.{Scopes}
use Rattle.ecd_cast.specs.Meaning.{Run, Falls, Returns, Stuck, doing, and_then}
use Rattle.ecd_calculus.proofs.Calculus.{writes-append, steps-append, after-writes}
use Rattle.ecd_acts.specs.Acts.{Known, Meets, step, behind}

pub weaker_run : (r : Run) (P Q : Known ℕ) (F G : Known Scopes) → ((n : ℕ) (ws : List Event) (k : ℕ) → P n ws k → Q n ws k) → ((e : Scopes) (ws : List Event) (k : ℕ) → F e ws k → G e ws k) → Meets r P F → Meets r Q G
weaker_run (Returns n es) P Q F G p f h = p n (writes_of es) (steps_of es) h
weaker_run (Falls env es) P Q F G p f h = f env (writes_of es) (steps_of es) h
weaker_run (Stuck r i s es) P Q F G p f h = h

-- ---- events before a run

same_known : {X : Type 0} (P : Known X) (x : X) (a b : List Event) → P x (writes_of a ++ writes_of b) (steps_of a + steps_of b) → P x (writes_of (a ++ b)) (steps_of (a ++ b))
same_known P x a b h = subst (λ (k : ℕ). P x (writes_of (a ++ b)) k) (sym (steps-append a b)) (subst (λ (ws : List Event). P x ws (steps_of a + steps_of b)) (sym (writes-append a b)) h)

known_same : {X : Type 0} (P : Known X) (x : X) (a b : List Event) → P x (writes_of (a ++ b)) (steps_of (a ++ b)) → P x (writes_of a ++ writes_of b) (steps_of a + steps_of b)
known_same P x a b h = subst (λ (k : ℕ). P x (writes_of a ++ writes_of b) k) (steps-append a b) (subst (λ (ws : List Event). P x ws (steps_of (a ++ b))) (writes-append a b) h)

pub meets_doing : (es : List Event) (r : Run) (P : Known ℕ) (F : Known Scopes) → Meets r (behind (writes_of es) (steps_of es) P) (behind (writes_of es) (steps_of es) F) → Meets (doing es r) P F
meets_doing es (Returns n ds) P F h = same_known P n es ds h
meets_doing es (Falls env ds) P F h = same_known F env es ds h
meets_doing es (Stuck r i s ds) P F h = h

doing_meets : (es : List Event) (r : Run) (P : Known ℕ) (F : Known Scopes) → Meets (doing es r) P F → Meets r (behind (writes_of es) (steps_of es) P) (behind (writes_of es) (steps_of es) F)
doing_meets es (Returns n ds) P F h = known_same P n es ds h
doing_meets es (Falls env ds) P F h = known_same F env es ds h
doing_meets es (Stuck r i s ds) P F h = h

one_more : {X : Type 0} (P : Known X) (x : X) (ws : List Event) (k : ℕ) → P x ws (suc k) → P x ws (1 + k)
one_more P x ws k h = let same : suc k ≡ 1 + k = omega arith in subst (λ (n : ℕ). P x ws n) same h

one_less : {X : Type 0} (P : Known X) (x : X) (ws : List Event) (k : ℕ) → P x ws (1 + k) → P x ws (suc k)
one_less P x ws k h = let same : 1 + k ≡ suc k = omega arith in subst (λ (n : ℕ). P x ws n) same h

pub meets_step : (r : Run) (P : Known ℕ) (F : Known Scopes) → Meets r (step P) (step F) → Meets (doing (Step ∷ []) r) P F
meets_step (Returns n ds) P F h = one_more P n (writes_of ds) (steps_of ds) h
meets_step (Falls env ds) P F h = one_more F env (writes_of ds) (steps_of ds) h
meets_step (Stuck r i s ds) P F h = h

pub step_meets : (r : Run) (P : Known ℕ) (F : Known Scopes) → Meets (doing (Step ∷ []) r) P F → Meets r (step P) (step F)
step_meets (Returns n ds) P F h = one_less P n (writes_of ds) (steps_of ds) h
step_meets (Falls env ds) P F h = one_less F env (writes_of ds) (steps_of ds) h
step_meets (Stuck r i s ds) P F h = h

-- ---- a piece and the rest

-- what is to be shown of the piece where the rest is to have P and F
abbrev pub Rest : Memory → (Scopes → Memory → Run) → Known ℕ → Known Scopes → Known Scopes
Rest m f P F env ws k = Meets (f env (after ws m)) (behind ws k P) (behind ws k F)

pub meets_then : (r : Run) (m : Memory) (f : Scopes → Memory → Run) (P : Known ℕ) (F : Known Scopes) → Meets r P (Rest m f P F) → Meets (and_then r m f) P F
meets_then (Returns n es) m f P F h = h
meets_then (Falls env es) m f P F h =
    let there : Meets (f env (after es m)) (behind (writes_of es) (steps_of es) P) (behind (writes_of es) (steps_of es) F) =
    subst (λ (n : Memory). Meets (f env n) (behind (writes_of es) (steps_of es) P) (behind (writes_of es) (steps_of es) F)) (sym (after-writes es m)) h in
    meets_doing es (f env (after es m)) P F there
meets_then (Stuck r i s es) m f P F h = h

pub then_meets : (r : Run) (m : Memory) (f : Scopes → Memory → Run) (P : Known ℕ) (F : Known Scopes) → Meets (and_then r m f) P F → Meets r P (Rest m f P F)
then_meets (Returns n es) m f P F h = h
then_meets (Falls env es) m f P F h =
    subst (λ (n : Memory). Meets (f env n) (behind (writes_of es) (steps_of es) P) (behind (writes_of es) (steps_of es) F)) (after-writes es m) (doing_meets es (f env (after es m)) P F h)
then_meets (Stuck r i s es) m f P F h = h
