-- What every reader keeps, and how readers that keep it are joined. `P` says which tokens an example may be made of.
use Rattle.std.proofs.Common.{◌≡◌, ◌<◌, ◌⊎◌, inl, inr, Bool, true, false, cond, List, [], ◌∷◌, ◌++◌, length, Option, Some, None, Result, Ok, Err, refl, ap, sym, ◌∙◌, subst, arith, append_assoc}
use Rattle.std.specs.Prelude.{is_some}
use Rattle.std.specs.List.{AllByRecursion}
use Rattle.std.proofs.lemmas.List.{length-append, append_cancel_right}
use Rattle.ecd_reading.specs.Reading.{Taken, Halted, Stuck, Deep, Reader, ◌>>=◌, taken, stuck, deep, with_rest, choose, on, begins, is_more, after}

-- a value, and tokens that spell it
pub record Example {T : Type 0} (P : T → Type 0) {A : Type 0} (G : A → List T → Type 0) : Type 0 where
  pub value : A
  pub text : List T
  pub plain : AllByRecursion P text
  pub spells : G value text

-- a spelling, and what is left behind it
pub record Reads {T : Type 0} (S : List T → Type 0) (ms rest : List T) : Type 0 where
  pub front : List T
  pub whole : ms ≡ front ++ rest
  pub spells : S front

-- the front of a spelling, and what is left behind it
pub record Stops {T : Type 0} (P : T → Type 0) {A : Type 0} (G : A → List T → Type 0) (ms rest : List T) : Type 0 where
  pub front : List T
  pub whole : ms ≡ front ++ rest
  pub more : List T
  pub plain : AllByRecursion P more
  pub value : A
  pub spells : G value (front ++ more)

-- a value or none, and what is left
abbrev pub ended : {T A : Type 0} → Option A → Reader T A
ended (Some x) = taken x
ended None = stuck

pub record Good {T : Type 0} (P : T → Type 0) {A : Type 0} (G : A → List T → Type 0) (p : List T → Result (Taken T A) (Halted T)) : Type 0 where
  -- what is read is spelled there
  pub sound : (ms rest : List T) (x : A) → p ms ≡ taken x rest → Reads (G x) ms rest
  -- what stands before the token that cannot be taken begins a spelling
  pub stops : (ms rest : List T) → p ms ≡ stuck rest → Stops P G ms rest
  -- no token behind the first one that is left was looked at
  pub local : (front rest other left : List T) (e : Option A) → 0 < length front → 0 < length left → p (front ++ rest) ≡ ended e (left ++ rest) → p (front ++ other) ≡ ended e (left ++ other)
  pub some : Example P G

-- ---- lists

pub plain-append : {T : Type 0} (P : T → Type 0) (xs ys : List T) → AllByRecursion P xs → AllByRecursion P ys → AllByRecursion P (xs ++ ys)
plain-append P [] ys p q = q
plain-append P (x ∷ xs) ys p q = (p.0, plain-append P xs ys p.1 q)

-- ---- cases

abbrev fine : {T A : Type 0} → Taken T A → Result (Taken T A) (Halted T)
fine t = Ok t

same_taken : {T A : Type 0} (t u : Taken T A) → fine t ≡ fine u → t ≡ u
same_taken t u e = cc

pub ok_is : {T A : Type 0} (x y : A) (r s : List T) → taken x r ≡ taken y s → (x ≡ y) × (r ≡ s)
ok_is {T} {A} x y r s e =
    let t = same_taken {T = T} {A = A} (record { value = x; rest = r }) (record { value = y; rest = s }) e in
    (ap (λ (p : Taken T A). p.value) t, ap (λ (p : Taken T A). p.rest) t)

abbrev failed : (T A : Type 0) → Halted T → Result (Taken T A) (Halted T)
failed T A z = Err z

err_is : (T A : Type 0) (y z : Halted T) → failed T A y ≡ failed T A z → y ≡ z
err_is T A y z h = cc

stuck_is : (T A : Type 0) (x y : List T) → failed T A (Stuck x) ≡ failed T A (Stuck y) → x ≡ y
stuck_is T A x y h = let e = err_is T A (Stuck x) (Stuck y) h in cc

pub bind_cases : {T A B : Type 0} (o : Result (Taken T A) (Halted T)) (f : Taken T A → Result (Taken T B) (Halted T)) (e : Option B) (rest : List T) → (o >>= f) ≡ ended e rest
    → ((x : Taken T A) × (o ≡ Ok x) × (f x ≡ ended e rest)) ⊎ ((e ≡ None) × (o ≡ Err (Stuck rest)))
bind_cases (Ok x) f e rest h = inl (x, refl, h)
bind_cases (Err z) f (Some y) rest h = absurd cc
bind_cases {T} {A} {B} (Err z) f None rest h = inr (refl, ap (failed T A) (err_is T B z (Stuck rest) h))

-- what is left is at the end
pub left_of : {T : Type 0} {P : T → Type 0} {A : Type 0} {G : A → List T → Type 0} {p : Reader T A} → Good P G p → (ms rest : List T) (e : Option A) → p ms ≡ ended e rest → (front : List T) × (ms ≡ front ++ rest)
left_of g ms rest (Some x) h = let r = g.sound ms rest x h in (r.front, r.whole)
left_of g ms rest None h = let r = g.stops ms rest h in (r.front, r.whole)

-- ---- one reader behind another

module _ (T : Type 0) (P : T → Type 0) (A B : Type 0) (G : A → List T → Type 0) (K : B → List T → Type 0) (p : Reader T A) (q : A → Reader T B) (good : Good P G p) (goods : (x : A) (a : List T) → G x a → Good P (λ y b. K y (a ++ b)) (q x)) where
  both_sound : (ms rest : List T) (y : B) → after p q ms ≡ taken y rest → Reads (K y) ms rest
  both_sound ms rest y h = elim (bind_cases (p ms) (λ x. q x.value x.rest) (Some y) rest h) [
    | inl w ↦
        let r = good.sound ms w.0.rest w.0.value w.1 in
        let s = (goods w.0.value r.front r.spells).sound w.0.rest rest y w.2 in
        record { front = r.front ++ s.front; whole = r.whole ∙ ap (λ (t : List T). r.front ++ t) s.whole ∙ sym (append_assoc r.front s.front rest); spells = s.spells }
    | inr w ↦ absurd cc
  ]

  both_stops : (ms rest : List T) → after p q ms ≡ stuck rest → Stops P K ms rest
  both_stops ms rest h = elim (bind_cases (p ms) (λ x. q x.value x.rest) None rest h) [
    | inl w ↦
        let r = good.sound ms w.0.rest w.0.value w.1 in
        let s = (goods w.0.value r.front r.spells).stops w.0.rest rest w.2 in
        record { front = r.front ++ s.front; whole = r.whole ∙ ap (λ (t : List T). r.front ++ t) s.whole ∙ sym (append_assoc r.front s.front rest); more = s.more; plain = s.plain; value = s.value; spells = rw (append_assoc r.front s.front s.more) s.spells }
    | inr w ↦
        let r = good.stops ms rest w.1 in
        let s = (goods r.value (r.front ++ r.more) r.spells).some in
        record { front = r.front; whole = r.whole; more = r.more ++ s.text; plain = plain-append P r.more s.text r.plain s.plain; value = s.value; spells = rw (← append_assoc r.front r.more s.text) s.spells }
  ]

  both_local : (front rest other left : List T) (e : Option B) → 0 < length front → 0 < length left → after p q (front ++ rest) ≡ ended e (left ++ rest) → after p q (front ++ other) ≡ ended e (left ++ other)
  both_local front rest other left e some lt h = elim (bind_cases (p (front ++ rest)) (λ x. q x.value x.rest) e (left ++ rest) h) [
    | inl w ↦
        let r = good.sound (front ++ rest) w.0.rest w.0.value w.1 in
        let next = goods w.0.value r.front r.spells in
        let t = left_of next w.0.rest (left ++ rest) e w.2 in
        let whole : w.0.rest ≡ (t.0 ++ left) ++ rest = t.1 ∙ sym (append_assoc t.0 left rest) in
        let first : p (front ++ other) ≡ taken w.0.value ((t.0 ++ left) ++ other) = good.local front rest other (t.0 ++ left) (Some w.0.value) some (omega (arith, length-append t.0 left)) (w.1 ∙ ap (taken w.0.value) whole) in
        let second : q w.0.value ((t.0 ++ left) ++ other) ≡ ended e (left ++ other) = next.local (t.0 ++ left) rest other left e (omega (arith, length-append t.0 left)) lt (ap (q w.0.value) (sym whole) ∙ w.2) in
        rw first second
    | inr w ↦
        let first : p (front ++ other) ≡ stuck (left ++ other) = good.local front rest other left None some lt w.1 in
        rw (w.0, first) refl
  ]

  both_good : Good P K (after p q)
  both_good = record {
    sound = both_sound;
    stops = both_stops;
    local = both_local;
    some = let r = good.some in let s = (goods r.value r.text r.spells).some in record { value = s.value; text = r.text ++ s.text; plain = plain-append P r.text s.text r.plain s.plain; spells = s.spells };
  }

pub good_after : {T : Type 0} {P : T → Type 0} {A B : Type 0} {G : A → List T → Type 0} {K : B → List T → Type 0} (p : Reader T A) (q : A → Reader T B) → Good P G p → ((x : A) (a : List T) → G x a → Good P (λ y b. K y (a ++ b)) (q x)) → Good P K (after p q)
good_after {T} {P} {A} {B} {G} {K} p q good goods = both_good T P A B G K p q good goods

pub good_weak : {T : Type 0} {P : T → Type 0} {A : Type 0} {G K : A → List T → Type 0} (p : Reader T A) → ((x : A) (ms : List T) → G x ms → K x ms) → Good P G p → Good P K p
good_weak {T} {P} {A} {G} {K} p f good = record {
  sound = λ ms rest x h. let r = good.sound ms rest x h in record { front = r.front; whole = r.whole; spells = f x r.front r.spells };
  stops = λ ms rest h. let r = good.stops ms rest h in record { front = r.front; whole = r.whole; more = r.more; plain = r.plain; value = r.value; spells = f r.value (r.front ++ r.more) r.spells };
  local = good.local;
  some = let r = good.some in record { value = r.value; text = r.text; plain = r.plain; spells = f r.value r.text r.spells };
}

-- the same where what is read behind is good for every front
pub good_bind : {T : Type 0} {P : T → Type 0} {A B : Type 0} {G : A → List T → Type 0} {K : B → List T → Type 0} (p : Reader T A) (q : A → Reader T B) → Good P G p → ((x : A) → Good P (λ y b. (a : List T) → G x a → K y (a ++ b)) (q x)) → Good P K (after p q)
good_bind p q good goods = good_after p q good (λ x a g. good_weak (q x) (λ y b h. h a g) (goods x))

-- ---- readers that take nothing

taken_local : {T A : Type 0} (x : A) (front rest other left : List T) (e : Option A) → taken x (front ++ rest) ≡ ended e (left ++ rest) → taken x (front ++ other) ≡ ended e (left ++ other)
taken_local x front rest other left (Some y) h =
    let t = ok_is x y (front ++ rest) (left ++ rest) h in
    rw (t.0, append_cancel_right front left rest t.1) refl
taken_local x front rest other left None h = absurd cc

pub good_taken : {T : Type 0} {P : T → Type 0} {A : Type 0} {K : A → List T → Type 0} (x : A) → K x [] → Good P K (taken x)
good_taken {T} {P} {A} {K} x k = record {
  sound = λ ms rest y h. let t = ok_is x y ms rest h in record { front = []; whole = t.1; spells = subst (λ (z : A). K z []) t.0 k };
  stops = λ ms rest h. absurd cc;
  local = λ front rest other left e some lt h. taken_local x front rest other left e h;
  some = record { value = x; text = []; plain = tt; spells = k };
}

stuck_local : {T A : Type 0} (front rest other left : List T) (e : Option A) → stuck (front ++ rest) ≡ ended e (left ++ rest) → stuck (front ++ other) ≡ ended e (left ++ other)
stuck_local front rest other left (Some y) h = absurd cc
stuck_local {T} {A} front rest other left None h = rw (append_cancel_right front left rest (stuck_is T A (front ++ rest) (left ++ rest) h)) refl

pub good_stuck : {T : Type 0} {P : T → Type 0} {A : Type 0} {K : A → List T → Type 0} → Example P K → Good P K stuck
good_stuck {T} {P} {A} {K} example = record {
  sound = λ ms rest y h. absurd cc;
  stops = λ ms rest h. record { front = []; whole = stuck_is T A ms rest h; more = example.text; plain = example.plain; value = example.value; spells = example.spells };
  local = λ front rest other left e some lt h. stuck_local front rest other left e h;
  some = example;
}

deep_local : {T A : Type 0} (e : Option A) (left : List T) → failed T A Deep ≡ ended e left → ⊥
deep_local (Some y) left h = cc
deep_local {T} {A} None left h = let g = err_is T A Deep (Stuck left) h in cc

abbrev nothing : (A : Type 0) → Option A
nothing A = None

pub good_deep : {T : Type 0} {P : T → Type 0} {A : Type 0} {K : A → List T → Type 0} → Example P K → Good P K deep
good_deep {T} {P} {A} {K} example = record {
  sound = λ ms rest y h. absurd (deep_local (Some y) rest h);
  stops = λ ms rest h. absurd (deep_local (nothing A) rest h);
  local = λ front rest other left e some lt h. absurd (deep_local e (left ++ rest) h);
  some = example;
}

-- ---- a choice by the first token

module _ (T : Type 0) (P : T → Type 0) (A B : Type 0) (K : B → List T → Type 0) (table : T → Option A) (p : A → Reader T B) (q : Reader T B) (goods : (x : A) (m : T) → table m ≡ Some x → Good P (λ y b. K y (m ∷ b)) (p x)) (good : Good P K q) where
  on_sound_at : (m : T) (ms rest : List T) (y : B) (o : Option A) → table m ≡ o → choose (with_rest ms o) p q (m ∷ ms) ≡ taken y rest → Reads (K y) (m ∷ ms) rest
  on_sound_at m ms rest y None e h = good.sound (m ∷ ms) rest y h
  on_sound_at m ms rest y (Some x) e h =
      let r = (goods x m e).sound ms rest y h in
      record { front = m ∷ r.front; whole = ap (λ (t : List T). m ∷ t) r.whole; spells = r.spells }

  on_sound : (ms rest : List T) (y : B) → on table p q ms ≡ taken y rest → Reads (K y) ms rest
  on_sound [] rest y h = good.sound [] rest y h
  on_sound (m ∷ ms) rest y h = on_sound_at m ms rest y (table m) refl h

  on_stops_at : (m : T) (ms rest : List T) (o : Option A) → table m ≡ o → choose (with_rest ms o) p q (m ∷ ms) ≡ stuck rest → Stops P K (m ∷ ms) rest
  on_stops_at m ms rest None e h = good.stops (m ∷ ms) rest h
  on_stops_at m ms rest (Some x) e h =
      let r = (goods x m e).stops ms rest h in
      record { front = m ∷ r.front; whole = ap (λ (t : List T). m ∷ t) r.whole; more = r.more; plain = r.plain; value = r.value; spells = r.spells }

  on_stops : (ms rest : List T) → on table p q ms ≡ stuck rest → Stops P K ms rest
  on_stops [] rest h = good.stops [] rest h
  on_stops (m ∷ ms) rest h = on_stops_at m ms rest (table m) refl h

  -- nothing that is read leaves more than there was
  no_more : (front left rest : List T) → rest ≡ front ++ (left ++ rest) → 0 < length left → ⊥
  no_more front left rest e lt = omega (arith, ap length e, length-append front (left ++ rest), length-append left rest)

  on_local_at : (m : T) (front rest other left : List T) (e : Option B) (o : Option A) → table m ≡ o → 0 < length left → choose (with_rest (front ++ rest) o) p q (m ∷ (front ++ rest)) ≡ ended e (left ++ rest)
      → choose (with_rest (front ++ other) o) p q (m ∷ (front ++ other)) ≡ ended e (left ++ other)
  on_local_at m front rest other left e None i lt h = good.local (m ∷ front) rest other left e (omega arith) lt h
  on_local_at m [] rest other left e (Some x) i lt h = absurd (let t = left_of (goods x m i) rest (left ++ rest) e h in no_more t.0 left rest t.1 lt)
  on_local_at m (n ∷ front) rest other left e (Some x) i lt h = (goods x m i).local (n ∷ front) rest other left e (omega arith) lt h

  on_local : (front rest other left : List T) (e : Option B) → 0 < length front → 0 < length left → on table p q (front ++ rest) ≡ ended e (left ++ rest) → on table p q (front ++ other) ≡ ended e (left ++ other)
  on_local [] rest other left e some lt h = absurd (omega arith)
  on_local (m ∷ front) rest other left e some lt h = on_local_at m front rest other left e (table m) refl lt h

  on_good : Good P K (on table p q)
  on_good = record { sound = on_sound; stops = on_stops; local = on_local; some = good.some }

pub good_choice : {T : Type 0} {P : T → Type 0} {A B : Type 0} {K : B → List T → Type 0} (table : T → Option A) (p : A → Reader T B) (q : Reader T B) → ((x : A) (m : T) → table m ≡ Some x → Good P (λ y b. K y (m ∷ b)) (p x)) → Good P K q → Good P K (on table p q)
good_choice {T} {P} {A} {B} {K} table p q goods good = on_good T P A B K table p q goods good

-- the same where what is read behind is good for every token
pub good_on : {T : Type 0} {P : T → Type 0} {A B : Type 0} {K : B → List T → Type 0} (table : T → Option A) (p : A → Reader T B) (q : Reader T B) → ((x : A) → Good P (λ y b. (m : T) → table m ≡ Some x → K y (m ∷ b)) (p x)) → Good P K q → Good P K (on table p q)
good_on table p q goods good = good_choice table p q (λ x m e. good_weak (p x) (λ y b h. h m e) (goods x)) good

-- ---- a choice by a test

abbrev pub TestsFirst : {T : Type 0} → (List T → Bool) → Type 0
TestsFirst {T} test = (front rest other : List T) → 0 < length front → test (front ++ rest) ≡ test (front ++ other)

pub if_reads : {T : Type 0} {P : T → Type 0} {A : Type 0} {K : A → List T → Type 0} (p q : Reader T A) → Good P K p → Good P K q → (ms rest : List T) (x : A) (b : Bool) → cond b (p ms) (q ms) ≡ taken x rest → Reads (K x) ms rest
if_reads p q good other ms rest x true h = good.sound ms rest x h
if_reads p q good other ms rest x false h = other.sound ms rest x h

pub if_stopped : {T : Type 0} {P : T → Type 0} {A : Type 0} {K : A → List T → Type 0} (p q : Reader T A) → Good P K p → Good P K q → (ms rest : List T) (b : Bool) → cond b (p ms) (q ms) ≡ stuck rest → Stops P K ms rest
if_stopped p q good other ms rest true h = good.stops ms rest h
if_stopped p q good other ms rest false h = other.stops ms rest h

pub if_first : {T : Type 0} {P : T → Type 0} {A : Type 0} {K : A → List T → Type 0} (p q : Reader T A) → Good P K p → Good P K q → (front rest other left : List T) (e : Option A) (b : Bool) → 0 < length front → 0 < length left → cond b (p (front ++ rest)) (q (front ++ rest)) ≡ ended e (left ++ rest)
    → cond b (p (front ++ other)) (q (front ++ other)) ≡ ended e (left ++ other)
if_first p q good good_too front rest other left e true have lt h = good.local front rest other left e have lt h
if_first p q good good_too front rest other left e false have lt h = good_too.local front rest other left e have lt h

pub good_if : {T : Type 0} {P : T → Type 0} {A : Type 0} {K : A → List T → Type 0} (test : List T → Bool) (p q : Reader T A) → TestsFirst test → Good P K p → Good P K q → Good P K (λ ms. cond (test ms) (p ms) (q ms))
good_if {T} {P} {A} {K} test p q tests good other = record {
  sound = λ ms rest x h. if_reads p q good other ms rest x (test ms) h;
  stops = λ ms rest h. if_stopped p q good other ms rest (test ms) h;
  local = λ front rest another left e some lt h. subst (λ (b : Bool). cond b (p (front ++ another)) (q (front ++ another)) ≡ ended e (left ++ another)) (tests front rest another some) (if_first p q good other front rest another left e (test (front ++ rest)) some lt h);
  some = good.some;
}

pub begun : {T A : Type 0} (o : Option A) (rest other : List T) → is_some (with_rest rest o) ≡ is_some (with_rest other o)
begun None rest other = refl
begun (Some x) rest other = refl

pub begins_tests : {T A : Type 0} (table : T → Option A) → TestsFirst (begins table)
begins_tests table [] rest other h = absurd (omega arith)
begins_tests table (m ∷ front) rest other h = begun (table m) (front ++ rest) (front ++ other)

pub more_tests : {T : Type 0} → TestsFirst {T = T} is_more
more_tests [] rest other h = absurd (omega arith)
more_tests (m ∷ front) rest other h = refl
