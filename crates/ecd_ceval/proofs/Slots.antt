-- Slots and the scopes that they make.
use Rattle.std.proofs.Common.{◌≡◌, ℕ, zero, suc, ◌<◌, Bool, true, false, List, [], ◌∷◌, ◌++◌, length, get_or, set, drop, refl, ap, sym, subst, ◌∙◌, arith}
use Rattle.std.specs.Prelude.{Option, Some, None, if◌then◌else◌, bytes_eq}
use Rattle.ecd_cast.specs.declared.value.Value.{Value}
use Rattle.ecd_cast.specs.Memory.{Name}
use Rattle.ecd_cast.specs.Expressions.{Scopes, Frame, lookup, in_frame, or_else}
use Rattle.ecd_cast.specs.Meaning.{declare, assign, set_in, leave}
use Rattle.ecd_ceval.specs.declared.variables.Slot.{Slot}
use Rattle.ecd_ceval.specs.declared.variables.Slot.TheVariants.{Opened, Variable}
use Rattle.ecd_ceval.specs.Scopes.{with_slot, scopes_from, is_variable, IsFree, Has, IsLast}

pub scopes-push : (env : Scopes) (xs : List Slot) (x : Slot) → scopes_from env (xs ++ x ∷ []) ≡ with_slot (scopes_from env xs) x
scopes-push env [] x = refl
scopes-push env (y ∷ ys) x = scopes-push (with_slot env y) ys x

pub scopes-append : (env : Scopes) (xs ys : List Slot) → scopes_from env (xs ++ ys) ≡ scopes_from (scopes_from env xs) ys
scopes-append env [] ys = refl
scopes-append env (x ∷ xs) ys = scopes-append (with_slot env x) xs ys

found : (b : Bool) (v : Value) (o rest : Option Value) → or_else (if b then Some v else o) rest ≡ (if b then Some v else or_else o rest)
found true v o rest = refl
found false v o rest = refl

-- the last variable hides the others of its name
pub lookup-declare : (x y : Name) (v : Value) (env : Scopes) → lookup (declare x v env) y ≡ (if bytes_eq x y then Some v else lookup env y)
lookup-declare x y v [] = found (bytes_eq x y) v None None
lookup-declare x y v (f ∷ fs) = found (bytes_eq x y) v (in_frame f y) (lookup fs y)

pub leave-declare : (x : Name) (v : Value) (env : Scopes) → leave (declare x v env) ≡ leave env
leave-declare x v [] = refl
leave-declare x v (f ∷ fs) = refl

-- assigning to the last variable
set_first : (b : Bool) (x y : Name) (v w : Value) (f : Frame) (fs : Scopes) → b ≡ true →
    elim (if b then Some w else in_frame f y) [ None ↦ ((x, w) ∷ f) ∷ assign y v fs | Some u ↦ (if b then (y, v) ∷ f else (x, w) ∷ set_in y v f) ∷ fs ] ≡ ((y, v) ∷ f) ∷ fs
set_first true x y v w f fs e = refl
set_first false x y v w f fs e = absurd cc

pub assign_last : (x y : Name) (v w : Value) (env : Scopes) → bytes_eq x y ≡ true → assign y v (declare x w env) ≡ declare y v env
assign_last x y v w [] e = set_first (bytes_eq x y) x y v w [] [] e
assign_last x y v w (f ∷ fs) e = set_first (bytes_eq x y) x y v w f fs e

-- assigning to another variable
set_other : (b : Bool) (x y : Name) (v w : Value) (o : Option Value) (f : Frame) (fs : Scopes) → b ≡ false → in_frame f y ≡ o →
    elim (if b then Some w else o) [ None ↦ ((x, w) ∷ f) ∷ assign y v fs | Some u ↦ (if b then (y, v) ∷ f else (x, w) ∷ set_in y v f) ∷ fs ] ≡ declare x w (elim o [ None ↦ f ∷ assign y v fs | Some u ↦ set_in y v f ∷ fs ])
set_other true x y v w o f fs e h = absurd cc
set_other false x y v w None f fs e h = refl
set_other false x y v w (Some u) f fs e h = refl

pub assign_declared : (x y : Name) (v w : Value) (env : Scopes) → bytes_eq x y ≡ false → assign y v (declare x w env) ≡ declare x w (assign y v env)
assign_declared x y v w [] e = rw (e, assign)
assign_declared x y v w (f ∷ fs) e = set_other (bytes_eq x y) x y v w (in_frame f y) f fs e refl

-- ---- the last variable of a name

free_in : (b : Bool) (v : Value) (o : Option Value) → b ≡ false → (if b then Some v else o) ≡ o
free_in true v o e = absurd cc
free_in false v o e = refl

hit_in : (b : Bool) (v : Value) (o : Option Value) → b ≡ true → (if b then Some v else o) ≡ Some v
hit_in true v o e = refl
hit_in false v o e = absurd cc

lookup_slot : (y : Name) (s : Slot) (env : Scopes) → is_variable y s ≡ false → lookup (with_slot env s) y ≡ lookup env y
lookup_slot y Opened env e = refl
lookup_slot y (Variable x w) env e = lookup-declare x.now y w env ∙ free_in (bytes_eq x.now y) w (lookup env y) e

pub lookup_free : (y : Name) (ss : List Slot) (env : Scopes) → IsFree y ss → lookup (scopes_from env ss) y ≡ lookup env y
lookup_free y [] env h = refl
lookup_free y (s ∷ ss) env h = lookup_free y ss (with_slot env s) h.1 ∙ lookup_slot y s env h.0

assign_slot : (y : Name) (v : Value) (s : Slot) (env : Scopes) → is_variable y s ≡ false → assign y v (with_slot env s) ≡ with_slot (assign y v env) s
assign_slot y v Opened env e = refl
assign_slot y v (Variable x w) env e = assign_declared x.now y v w env e

pub assign_free : (y : Name) (v : Value) (ss : List Slot) (env : Scopes) → IsFree y ss → assign y v (scopes_from env ss) ≡ scopes_from (assign y v env) ss
assign_free y v [] env h = refl
assign_free y v (s ∷ ss) env h = assign_free y v ss (with_slot env s) h.1 ∙ ap (λ e. scopes_from e ss) (assign_slot y v s env h.0)

hit : (y : Name) (s : Slot) (v : Value) (env : Scopes) → Has y s v → lookup (with_slot env s) y ≡ Some v
hit y Opened v env h = absurd h
hit y (Variable x w) v env h = lookup-declare x.now y w env ∙ (hit_in (bytes_eq x.now y) w (lookup env y) h.0 ∙ ap Some (sym h.1))

pub lookup_last : (y : Name) (ss : List Slot) (at : ℕ) (v : Value) (env : Scopes) → IsLast y ss at v → lookup (scopes_from env ss) y ≡ Some v
lookup_last y [] at v env h = absurd h
lookup_last y (s ∷ ss) zero v env h = lookup_free y ss (with_slot env s) h.1 ∙ hit y s v env h.0
lookup_last y (s ∷ ss) (suc at) v env h = lookup_last y ss at v (with_slot env s) h

assigned : (y : Name) (s : Slot) (v w : Value) (env : Scopes) → Has y s w → assign y v (with_slot env s) ≡ declare y v env
assigned y Opened v w env h = absurd h
assigned y (Variable x u) v w env h = assign_last x.now y v u env h.0

pub assign_found : (y : Name) (to : Slot) (v w : Value) (ss : List Slot) (at : ℕ) (env : Scopes) → ((e : Scopes) → with_slot e to ≡ declare y v e) → IsLast y ss at w →
    assign y v (scopes_from env ss) ≡ scopes_from env (set ss at to)
assign_found y to v w [] at env k h = absurd h
assign_found y to v w (s ∷ ss) zero env k h =
    assign_free y v ss (with_slot env s) h.1 ∙ ap (λ e. scopes_from e ss) (assigned y s v w env h.0 ∙ sym (k env))
assign_found y to v w (s ∷ ss) (suc at) env k h = assign_found y to v w ss at (with_slot env s) k h

pub within_last : (y : Name) (ss : List Slot) (at : ℕ) (v : Value) → IsLast y ss at v → at < length ss
within_last y [] at v h = absurd h
within_last y (s ∷ ss) zero v h = omega arith
within_last y (s ∷ ss) (suc at) v h = let k = within_last y ss at v h in omega arith

-- the slot at a place, before slots that are free of the name
pub last_here : (y : Name) (ss : List Slot) (at : ℕ) (s d : Slot) (v : Value) → at < length ss → s ≡ get_or ss at d → Has y s v → IsFree y (drop (suc at) ss) → IsLast y ss at v
last_here y [] at s d v lt e h k = absurd (omega arith)
last_here y (t ∷ ss) zero s d v lt e h k = (subst (λ (x : Slot). Has y x v) e h, k)
last_here y (t ∷ ss) (suc at) s d v lt e h k = last_here y ss at s d v (omega arith) e h k

-- one more slot that is free of the name
pub free_more : (y : Name) (ss : List Slot) (at : ℕ) (s d : Slot) → at < length ss → s ≡ get_or ss at d → is_variable y s ≡ false → IsFree y (drop (suc at) ss) → IsFree y (drop at ss)
free_more y [] at s d lt e h k = absurd (omega arith)
free_more y (t ∷ ss) zero s d lt e h k = (subst (λ (x : Slot). is_variable y x ≡ false) e h, k)
free_more y (t ∷ ss) (suc at) s d lt e h k = free_more y ss at s d (omega arith) e h k
