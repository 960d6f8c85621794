-- What follows from the result of reading.
use Rattle.std.proofs.Common.{◌≡◌, ℕ, ◌⊎◌, Bool, true, false, cond, List, ◌++◌, Result, Ok, Err, refl, ap, inl, inr}
use Rattle.std.specs.declared.cmp.Ordering.{Ordering}
use Rattle.std.specs.declared.cmp.Ordering.TheVariants.{Less, Equal, Greater}
use Rattle.ecd_item_laws.specs.declared.fault.Fault.{Fault}
use Rattle.ecd_item_laws.specs.declared.fault.Cause.{Cause}
use Rattle.ecd_item_laws.specs.Reading.{Taken, ◌>>=◌, taken, refused, made, is_less}

abbrev pub fine : {A : Type 0} → A → Result A Fault
fine x = Ok x

abbrev pub failed : {A : Type 0} → Fault → Result A Fault
failed fault = Err fault

pub ok_is : {A : Type 0} (x y : A) → fine x ≡ fine y → x ≡ y
ok_is x y e = cc

pub same_fault : {A : Type 0} (f g : Fault) → failed {A = A} f ≡ failed g → f ≡ g
same_fault f g e = cc

pub not_both : {A B : Type 0} (x : A) (f : Fault) → fine x ≡ failed f → B
not_both x f e = absurd cc

pub refused_is : {A : Type 0} (at : ℕ) (cause : Cause) (f : Fault) → refused {A = A} at cause ≡ Err f → f ≡ record { place = at; cause = cause }
refused_is at cause f e = cc

-- ---- one after the other

pub bind_ok : {A B : Type 0} (r : Result A Fault) (f : A → Result B Fault) (y : B) → (r >>= f) ≡ Ok y → (x : A) × (r ≡ Ok x) × (f x ≡ Ok y)
bind_ok (Ok x) f y e = (x, refl, e)
bind_ok (Err d) f y e = absurd cc

pub bind_err : {A B : Type 0} (r : Result A Fault) (f : A → Result B Fault) (e : Fault) → (r >>= f) ≡ Err e → (r ≡ Err e) ⊎ ((x : A) × (r ≡ Ok x) × (f x ≡ Err e))
bind_err (Ok x) f e h = inr (x, refl, h)
bind_err (Err d) f e h = inl cc

pub made_err : {A B : Type 0} (f : A → B) (r : Result (Taken A) Fault) (e : Fault) → made f r ≡ Err e → r ≡ Err e
made_err f (Ok x) e h = absurd cc
made_err f (Err d) e h = cc

-- what was read before, and what is still read
abbrev pub with_front : {A : Type 0} → List A → Result (Taken (List A)) Fault → Result (Taken (List A)) Fault
with_front front read = read >>= λ x. taken (front ++ x.value) x.at x.rest

-- ---- one or the other

pub chosen_ok : {A : Type 0} (b : Bool) (r s : Result A Fault) (y : A) → cond b r s ≡ Ok y → ((b ≡ true) × (r ≡ Ok y)) ⊎ ((b ≡ false) × (s ≡ Ok y))
chosen_ok true r s y e = inl (refl, e)
chosen_ok false r s y e = inr (refl, e)

pub chosen_err : {A : Type 0} (b : Bool) (r s : Result A Fault) (e : Fault) → cond b r s ≡ Err e → ((b ≡ true) × (r ≡ Err e)) ⊎ ((b ≡ false) × (s ≡ Err e))
chosen_err true r s e h = inl (refl, h)
chosen_err false r s e h = inr (refl, h)

pub guard_ok : {A : Type 0} (b : Bool) (d : Fault) (r : Result A Fault) (y : A) → cond b r (Err d) ≡ Ok y → (b ≡ true) × (r ≡ Ok y)
guard_ok true d r y e = (refl, e)
guard_ok false d r y e = absurd cc

pub guard_not : {A : Type 0} (b : Bool) (d : Fault) (r : Result A Fault) (y : A) → cond b (Err d) r ≡ Ok y → (b ≡ false) × (r ≡ Ok y)
guard_not true d r y e = absurd cc
guard_not false d r y e = (refl, e)

-- ---- the order of two keys

pub less_is : (o : Ordering) → is_less o ≡ true → o ≡ Less
less_is Less e = refl
less_is Equal e = absurd cc
less_is Greater e = absurd cc

pub less_not : (o : Ordering) → is_less o ≡ false → o ≡ Less → ⊥
less_not Less e f = cc
less_not Equal e f = cc
less_not Greater e f = cc

pub less_true : (o : Ordering) → o ≡ Less → is_less o ≡ true
less_true o e = ap is_less e

pub less_false : (o : Ordering) → (o ≡ Less → ⊥) → is_less o ≡ false
less_false Less h = absurd (h refl)
less_false Equal h = refl
less_false Greater h = refl
