-- Variables and functions with numbered names.
use Rattle.std.proofs.Common.{◌≡◌, ℕ, zero, suc, ◌+◌, ◌<◌, ◌≤◌, List, [], ◌∷◌, ◌++◌, length, refl, ap, ◌∙◌, arith, Bool, true, false}
use Rattle.std.specs.Prelude.{Option, Some, None, ◌≢◌, ◌^◌, if◌then◌else◌, bytes_eq, slice_get}
use Rattle.ecd_cast.specs.declared.tree.Function.{Function}
use Rattle.ecd_cast.specs.declared.tree.CItem.{CItem}
use Rattle.ecd_cast.specs.declared.tree.CItem.TheVariants.{Struct as AStruct, Function as AFunction}
use Rattle.ecd_cast.specs.Kept.{IsNew}
use Rattle.ecd_cast.specs.Validity.{functions_of, function_named}
use Rattle.std.specs.Fmt.{decimal}
use Rattle.std.proofs.lemmas.Slice.Eq.{bytes_eq-Decides}
use Rattle.std.proofs.lemmas.Fmt.{decimal_injective}
use Rattle.ecd_cast.specs.declared.value.Value.{Value}
use Rattle.ecd_cast.specs.Memory.{Name}
use Rattle.ecd_cast.specs.Expressions.{Scopes, Frame, lookup, in_frame, or_else}
use Rattle.ecd_cast.specs.Meaning.{declare, assign, set_in}
use Rattle.ecd_acts.specs.Names.{numbered, AreNumbered, NumberedNames, VariablesFound, FunctionsFound}

pub same_name : (x : Name) → bytes_eq x x ≡ true
same_name x = (bytes_eq-Decides x x).1 refl

other_name : (b : Bool) (x y : Name) → bytes_eq x y ≡ b → (x ≡ y → ⊥) → b ≡ false
other_name true x y e h = absurd (h ((bytes_eq-Decides x y).0 e))
other_name false x y e h = refl

same_behind : (word a b : Name) → word ++ a ≡ word ++ b → a ≡ b
same_behind [] a b e = e
same_behind (c ∷ word) a b e = same_behind word a b cc

pub numbers_apart : (word : Name) (a b : ℕ) → a < 2 ^ 64 → b < 2 ^ 64 → a ≢ b → bytes_eq (numbered word a) (numbered word b) ≡ false
numbers_apart word a b p q ne = other_name (bytes_eq (numbered word a) (numbered word b)) (numbered word a) (numbered word b) refl (λ e. ne (decimal_injective a b p q (same_behind word (decimal a) (decimal b) e)))

pub numbered_names : NumberedNames
numbered_names = record { same = same_name; different = numbers_apart }

-- ---- variables

pub declared_found : (env : Scopes) (x : Name) (v : Value) → lookup (declare x v env) x ≡ Some v
declared_found [] x v = rw (same_name x) refl
declared_found (f ∷ fs) x v = rw (same_name x) refl

pub declared_other : (env : Scopes) (x y : Name) (v : Value) → bytes_eq x y ≡ false → lookup (declare x v env) y ≡ lookup env y
declared_other [] x y v h = rw h refl
declared_other (f ∷ fs) x y v h = rw h refl

put_same : (w : Name × Value) (ws : Frame) (x : Name) (old v : Value) (b : Bool) → bytes_eq w.0 x ≡ b → (in_frame ws x ≡ Some old → in_frame (set_in x v ws) x ≡ Some v) →
    (if b then Some w.1 else in_frame ws x) ≡ Some old → in_frame (if b then (x, v) ∷ ws else w ∷ set_in x v ws) x ≡ Some v
put_same w ws x old v true e ih h = rw (same_name x) refl
put_same w ws x old v false e ih h = rw e (ih h)

set_same : (f : Frame) (x : Name) (old v : Value) → in_frame f x ≡ Some old → in_frame (set_in x v f) x ≡ Some v
set_same [] x old v h = absurd (cc h)
set_same (w ∷ ws) x old v h = put_same w ws x old v (bytes_eq w.0 x) refl (set_same ws x old v) h

put_other : (w : Name × Value) (ws : Frame) (x y : Name) (v : Value) (b : Bool) → bytes_eq w.0 x ≡ b → bytes_eq x y ≡ false → in_frame (set_in x v ws) y ≡ in_frame ws y → in_frame (if b then (x, v) ∷ ws else w ∷ set_in x v ws) y ≡ in_frame (w ∷ ws) y
put_other w ws x y v true e apart ih =
    let here : bytes_eq w.0 y ≡ false = ap (λ (n : Name). bytes_eq n y) ((bytes_eq-Decides w.0 x).0 e) ∙ apart in
    rw (apart, here) refl
put_other w ws x y v false e apart ih = ap (λ o. if bytes_eq w.0 y then Some w.1 else o) ih

set_other : (f : Frame) (x y : Name) (v : Value) → bytes_eq x y ≡ false → in_frame (set_in x v f) y ≡ in_frame f y
set_other [] x y v h = refl
set_other (w ∷ ws) x y v h = put_other w ws x y v (bytes_eq w.0 x) refl h (set_other ws x y v h)

in_scopes : (o : Option Value) (f : Frame) (fs : Scopes) (x : Name) (old v : Value) → in_frame f x ≡ o → (lookup fs x ≡ Some old → lookup (assign x v fs) x ≡ Some v) → or_else o (lookup fs x) ≡ Some old →
    lookup (elim o [ None ↦ f ∷ assign x v fs | Some w ↦ set_in x v f ∷ fs ]) x ≡ Some v
in_scopes None f fs x old v e ih h = rw e (ih h)
in_scopes (Some w) f fs x old v e ih h = rw (set_same f x w v e) refl

pub assigned_found : (env : Scopes) (x : Name) (old v : Value) → lookup env x ≡ Some old → lookup (assign x v env) x ≡ Some v
assigned_found [] x old v h = absurd (cc h)
assigned_found (f ∷ fs) x old v h = in_scopes (in_frame f x) f fs x old v refl (assigned_found fs x old v) h

past_scopes : (o : Option Value) (f : Frame) (fs : Scopes) (x y : Name) (v : Value) → bytes_eq x y ≡ false → lookup (assign x v fs) y ≡ lookup fs y →
    lookup (elim o [ None ↦ f ∷ assign x v fs | Some w ↦ set_in x v f ∷ fs ]) y ≡ or_else (in_frame f y) (lookup fs y)
past_scopes None f fs x y v h ih = ap (λ o. or_else (in_frame f y) o) ih
past_scopes (Some w) f fs x y v h ih = ap (λ o. or_else o (lookup fs y)) (set_other f x y v h)

pub assigned_other : (env : Scopes) (x y : Name) (v : Value) → bytes_eq x y ≡ false → lookup (assign x v env) y ≡ lookup env y
assigned_other [] x y v h = refl
assigned_other (f ∷ fs) x y v h = past_scopes (in_frame f x) f fs x y v h (assigned_other fs x y v h)

pub variables_found : VariablesFound
variables_found = record { declared = declared_found; declared_other = declared_other; assigned = assigned_found; assigned_other = assigned_other }

-- ---- functions

pub function_found : (word : Name) (first i : ℕ) (items : List CItem) (f : Function) → first + length items ≤ 2 ^ 64 → AreNumbered word first items → slice_get items i ≡ Some (AFunction f) → function_named (functions_of items) (numbered word (first + i)) ≡ Some f
function_found word first i [] f le h e = absurd (cc e)
function_found word first zero (AStruct s ∷ items) f le h e = absurd (cc e)
function_found word first zero (AFunction g ∷ items) f le h e =
    let place : first ≡ first + 0 = omega arith in
    let named : bytes_eq g.name (numbered word (first + 0)) ≡ true = (bytes_eq-Decides g.name (numbered word (first + 0))).1 (h.0 ∙ ap (λ (n : ℕ). numbered word n) place) in
    let same : g ≡ f = cc e in
    rw named (ap (λ (x : Function). Some x) same)
function_found word first (suc i) (AStruct s ∷ items) f le h e =
    let place : first + suc i ≡ suc first + i = omega arith in
    ap (λ (n : ℕ). function_named (functions_of items) (numbered word n)) place ∙ function_found word (suc first) i items f (omega (arith, le)) h e
function_found word first (suc i) (AFunction g ∷ items) f le h e =
    let place : first + suc i ≡ suc first + i = omega arith in
    let inside : i < length items = below i items (AFunction f) e in
    let apart : bytes_eq g.name (numbered word (first + suc i)) ≡ false =
    ap (λ (x : Name). bytes_eq x (numbered word (first + suc i))) h.0 ∙ numbers_apart word first (first + suc i) (omega (arith, le)) (omega (arith, le, inside)) (λ z. absurd (omega (arith, z))) in
    rw apart (ap (λ (n : ℕ). function_named (functions_of items) (numbered word n)) place ∙ function_found word (suc first) i items f (omega (arith, le)) h.1 e)
  where
    below : (k : ℕ) (xs : List CItem) (x : CItem) → slice_get xs k ≡ Some x → k < length xs
    below k [] x z = absurd (cc z)
    below zero (y ∷ xs) x z = omega arith
    below (suc k) (y ∷ xs) x z = let r = below k xs x z in omega (arith, r)

pub function_new : (word : Name) (first n : ℕ) (items : List CItem) → n < 2 ^ 64 → first + length items ≤ n → AreNumbered word first items → IsNew (numbered word n) items
function_new word first n [] lt le h = tt
function_new word first n (AStruct s ∷ items) lt le h = function_new word (suc first) n items lt (omega (arith, le)) h
function_new word first n (AFunction f ∷ items) lt le h =
    (ap (λ (x : Name). bytes_eq x (numbered word n)) h.0 ∙ numbers_apart word first n (omega (arith, lt, le)) lt (λ z. absurd (omega (arith, z, le))), function_new word (suc first) n items lt (omega (arith, le)) h.1)

pub functions_found : FunctionsFound
functions_found = record { found = function_found; new = function_new }
