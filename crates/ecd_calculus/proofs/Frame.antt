-- Writes to other blocks, and the first steps of a run.
use Rattle.std.proofs.Common.{◌≡◌, ℕ, suc, zero, ◌+◌, ◌≤◌, List, [], ◌∷◌, refl, ap, ◌∙◌, arith}
use Rattle.std.specs.Prelude.{Option, Some, None, slice_get, slice_set, ◌≢◌}
use Rattle.ecd_cast.specs.Memory.{Name, Event, Step, Enters, Leaves, WritesByte, WritesCell, Memory, Block, Bytes, Cells, after, event, with_byte_in, with_cell_in, steps_of, first_steps, most_active}
use Rattle.ecd_cast.specs.declared.value.Cell.{Cell}
use Rattle.ecd_calculus.specs.Laws.{Spares, Steps}

get_set_other : {X : Type 0} (xs : List X) (k b : ℕ) (x : X) → k ≢ b → slice_get (slice_set xs k x) b ≡ slice_get xs b
get_set_other [] k b x h = refl
get_set_other (y ∷ ys) zero zero x h = absurd (h refl)
get_set_other (y ∷ ys) zero (suc b) x h = refl
get_set_other (y ∷ ys) (suc k) zero x h = refl
get_set_other (y ∷ ys) (suc k) (suc b) x h = get_set_other ys k b x (λ e. h (ap suc e))

byte_other : (o : Option Block) (at v k b : ℕ) (m : Memory) → k ≢ b → slice_get (with_byte_in o at v m k) b ≡ slice_get m b
byte_other (Some (Bytes bytes)) at v k b m h = get_set_other m k b _ h
byte_other (Some (Cells cells)) at v k b m h = refl
byte_other None at v k b m h = refl

cell_other : (o : Option Block) (x : Name) (c : Cell) (k b : ℕ) (m : Memory) → k ≢ b → slice_get (with_cell_in o x c m k) b ≡ slice_get m b
cell_other (Some (Cells cells)) x c k b m h = get_set_other m k b _ h
cell_other (Some (Bytes bytes)) x c k b m h = refl
cell_other None x c k b m h = refl

pub after_other : (es : List Event) (b : ℕ) (m : Memory) → Spares b es → slice_get (after es m) b ≡ slice_get m b
after_other [] b m h = refl
after_other (Step ∷ es) b m h = after_other es b m h
after_other (Enters ∷ es) b m h = after_other es b m h
after_other (Leaves ∷ es) b m h = after_other es b m h
after_other (WritesByte k o v ∷ es) b m h = after_other es b (event (WritesByte k o v) m) h.1 ∙ byte_other (slice_get m k) o v k b m h.0
after_other (WritesCell k x c ∷ es) b m h = after_other es b (event (WritesCell k x c) m) h.1 ∙ cell_other (slice_get m k) x c k b m h.0

few_steps : (n : ℕ) (es : List Event) → steps_of (first_steps n es) ≤ n
few_steps n [] = omega arith
few_steps n (WritesByte k o v ∷ es) = few_steps n es
few_steps n (WritesCell k x c ∷ es) = few_steps n es
few_steps n (Enters ∷ es) = few_steps n es
few_steps n (Leaves ∷ es) = few_steps n es
few_steps zero (Step ∷ es) = omega arith
few_steps (suc n) (Step ∷ es) = let h = few_steps n es in omega arith

all_steps : (es : List Event) → first_steps (steps_of es) es ≡ es
all_steps [] = refl
all_steps (WritesByte k o v ∷ es) = ap (λ l. WritesByte k o v ∷ l) (all_steps es)
all_steps (WritesCell k x c ∷ es) = ap (λ l. WritesCell k x c ∷ l) (all_steps es)
all_steps (Enters ∷ es) = ap (λ l. Enters ∷ l) (all_steps es)
all_steps (Leaves ∷ es) = ap (λ l. Leaves ∷ l) (all_steps es)
all_steps (Step ∷ es) =
    let one : 1 + steps_of es ≡ suc (steps_of es) = omega arith in
    ap (λ n. first_steps n (Step ∷ es)) one ∙ ap (λ l. Step ∷ l) (all_steps es)

at_least_now : (now : ℕ) (es : List Event) → now ≤ most_active now es
at_least_now now [] = omega arith
at_least_now now (WritesByte k o v ∷ es) = at_least_now now es
at_least_now now (WritesCell k x c ∷ es) = at_least_now now es
at_least_now now (Step ∷ es) = at_least_now now es
at_least_now now (Enters ∷ es) = let h = at_least_now (now + 1) es in omega arith
at_least_now now (Leaves ∷ es) = omega arith

pub steps : Steps
steps = record { few = few_steps; whole = all_steps; active = at_least_now }
