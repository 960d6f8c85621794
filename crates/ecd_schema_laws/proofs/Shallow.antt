-- Readers that are not too deep for lists of fewer tokens than this, and leave no more tokens than there were.
use Rattle.std.proofs.Common.{◌≡◌, ℕ, zero, suc, ◌<◌, ◌≤◌, inl, inr, Bool, true, false, cond, List, [], ◌∷◌, length, Option, Some, None, Result, Ok, Err, refl, ap, subst, arith}
use Rattle.ecd_reading.specs.Reading.{Taken, Halted, Stuck, Deep, Reader, ◌>>=◌, taken, stuck, with_rest, choose, on, token, after, many, each}
use Rattle.ecd_reading.proofs.Readers.{ok_is, bind_cases}

pub record Shallow {T A : Type 0} (k : ℕ) (p : List T → Result (Taken T A) (Halted T)) : Type 0 where
  pub not_deep : (ms : List T) → length ms < k → p ms ≡ Err Deep → ⊥
  pub no_longer : (ms rest : List T) (x : A) → p ms ≡ taken x rest → length rest ≤ length ms

pub shallow_taken : {T A : Type 0} (k : ℕ) (x : A) → Shallow {T = T} k (taken x)
shallow_taken k x = record { not_deep = λ ms lt h. cc; no_longer = λ ms rest y h. omega (arith, ap length (ok_is x y ms rest h).1) }

pub shallow_stuck : (T A : Type 0) (k : ℕ) → Shallow {T = T} {A = A} k stuck
shallow_stuck T A k = record { not_deep = λ ms lt h. cc; no_longer = λ ms rest x h. absurd cc }

pub shallow_less : {T A : Type 0} {p : Reader T A} (j k : ℕ) → k ≤ j → Shallow j p → Shallow k p
shallow_less j k le s = record { not_deep = λ ms lt h. s.not_deep ms (omega arith) h; no_longer = s.no_longer }

-- ---- one reader behind another

module _ (T A B : Type 0) (k : ℕ) (p : Reader T A) (q : A → Reader T B) (first : Shallow k p) (second : (x : A) → Shallow k (q x)) where
  both_not_deep : (ms : List T) → length ms < k → (o : Result (Taken T A) (Halted T)) → p ms ≡ o → (o >>= λ x. q x.value x.rest) ≡ Err Deep → ⊥
  both_not_deep ms lt (Ok x) e h = (second x.value).not_deep x.rest (omega (arith, first.no_longer ms x.rest x.value e)) h
  both_not_deep ms lt (Err (Stuck rest)) e h = cc
  both_not_deep ms lt (Err Deep) e h = first.not_deep ms lt e

  both_no_longer : (ms rest : List T) (y : B) (o : Result (Taken T A) (Halted T)) → p ms ≡ o → (o >>= λ x. q x.value x.rest) ≡ taken y rest → length rest ≤ length ms
  both_no_longer ms rest y (Ok x) e h = omega (arith, first.no_longer ms x.rest x.value e, (second x.value).no_longer x.rest rest y h)
  both_no_longer ms rest y (Err z) e h = absurd cc

  both : Shallow k (after p q)
  both = record { not_deep = λ ms lt h. both_not_deep ms lt (p ms) refl h; no_longer = λ ms rest y h. both_no_longer ms rest y (p ms) refl h }

pub shallow_after : {T A B : Type 0} (k : ℕ) (p : Reader T A) (q : A → Reader T B) → Shallow k p → ((x : A) → Shallow k (q x)) → Shallow k (after p q)
shallow_after {T} {A} {B} k p q f g = both T A B k p q f g

-- ---- a choice by the first token: behind it there is one token less

module _ (T A B : Type 0) (j k : ℕ) (le : k ≤ suc j) (table : T → Option A) (p : A → Reader T B) (q : Reader T B) (first : (x : A) → Shallow j (p x)) (second : Shallow k q) where
  pick_not_deep : (m : T) (ms : List T) (o : Option A) → length (m ∷ ms) < k → choose (with_rest ms o) p q (m ∷ ms) ≡ Err Deep → ⊥
  pick_not_deep m ms None lt h = second.not_deep (m ∷ ms) lt h
  pick_not_deep m ms (Some x) lt h = (first x).not_deep ms (omega arith) h

  pick_no_longer : (m : T) (ms rest : List T) (y : B) (o : Option A) → choose (with_rest ms o) p q (m ∷ ms) ≡ taken y rest → length rest ≤ length (m ∷ ms)
  pick_no_longer m ms rest y None h = second.no_longer (m ∷ ms) rest y h
  pick_no_longer m ms rest y (Some x) h = omega (arith, (first x).no_longer ms rest y h)

  at_not_deep : (ms : List T) → length ms < k → on table p q ms ≡ Err Deep → ⊥
  at_not_deep [] lt h = second.not_deep [] lt h
  at_not_deep (m ∷ ms) lt h = pick_not_deep m ms (table m) lt h

  at_no_longer : (ms rest : List T) (y : B) → on table p q ms ≡ taken y rest → length rest ≤ length ms
  at_no_longer [] rest y h = second.no_longer [] rest y h
  at_no_longer (m ∷ ms) rest y h = pick_no_longer m ms rest y (table m) h

  picks : Shallow k (on table p q)
  picks = record { not_deep = at_not_deep; no_longer = at_no_longer }

-- behind the token fewer levels are enough
pub shallow_past : {T A B : Type 0} (k : ℕ) (table : T → Option A) (p : A → Reader T B) (q : Reader T B) → ((x : A) → Shallow k (p x)) → Shallow (suc k) q → Shallow (suc k) (on table p q)
shallow_past {T} {A} {B} k table p q f g = picks T A B k (suc k) (omega arith) table p q f g

pub shallow_on : {T A B : Type 0} (k : ℕ) (table : T → Option A) (p : A → Reader T B) (q : Reader T B) → ((x : A) → Shallow k (p x)) → Shallow k q → Shallow k (on table p q)
shallow_on {T} {A} {B} k table p q f g = picks T A B k k (omega arith) table p q f g

pub shallow_token : {T A : Type 0} (k : ℕ) (table : T → Option A) → Shallow k (token table)
shallow_token {T} {A} k table = shallow_on k table taken stuck (λ x. shallow_taken k x) (shallow_stuck T A k)

-- ---- a choice by a test

pub shallow_if : {T A : Type 0} (k : ℕ) (test : List T → Bool) (p q : Reader T A) → Shallow k p → Shallow k q → Shallow k (λ ms. cond (test ms) (p ms) (q ms))
shallow_if {T} {A} k test p q f g = record { not_deep = λ ms lt h. deep_by ms lt (test ms) h; no_longer = λ ms rest x h. longer_by ms rest x (test ms) h }
  where
    deep_by : (ms : List T) → length ms < k → (b : Bool) → cond b (p ms) (q ms) ≡ Err Deep → ⊥
    deep_by ms lt true h = f.not_deep ms lt h
    deep_by ms lt false h = g.not_deep ms lt h

    longer_by : (ms rest : List T) (x : A) (b : Bool) → cond b (p ms) (q ms) ≡ taken x rest → length rest ≤ length ms
    longer_by ms rest x true h = f.no_longer ms rest x h
    longer_by ms rest x false h = g.no_longer ms rest x h

-- ---- one after the other

pub shallow_many : {T A : Type 0} (k : ℕ) (test : List T → Bool) (one : Reader T A) → Shallow k one → (n : ℕ) → Shallow k (many test one (taken []) n)
unfolding many
shallow_many k test one f zero = shallow_taken k []
shallow_many k test one f (suc n) =
    shallow_if k test (after one (λ x. after (many test one (taken []) n) (λ xs. taken (x ∷ xs)))) (taken [])
    (shallow_after k one (λ x. after (many test one (taken []) n) (λ xs. taken (x ∷ xs))) f
    (λ x. shallow_after k (many test one (taken []) n) (λ xs. taken (x ∷ xs)) (shallow_many k test one f n) (λ xs. shallow_taken k (x ∷ xs))))
    (shallow_taken k [])

pub shallow_each : {T A : Type 0} (k : ℕ) (test : List T → Bool) (one : Reader T A) → Shallow k one → Shallow k (each test one)
shallow_each k test one f = record { not_deep = λ ms lt h. (shallow_many k test one f (suc (length ms))).not_deep ms lt h; no_longer = λ ms rest x h. (shallow_many k test one f (suc (length ms))).no_longer ms rest x h }

-- ---- where the test fails, each has ended

-- a token is taken at least
abbrev pub Progresses : {T A : Type 0} → Reader T A → Type 0
Progresses {T} {A} one = (ms rest : List T) (x : A) → one ms ≡ taken x rest → length rest < length ms

pub progress_token : {T A B : Type 0} (k : ℕ) (table : T → Option A) (q : A → Reader T B) → ((x : A) → Shallow k (q x)) → Progresses (after (token table) q)
progress_token k table q f [] rest y h = absurd cc
progress_token {T} {A} {B} k table q f (m ∷ ms) rest y h = by_table (table m) h
  where
    by_table : (o : Option A) → (choose (with_rest ms o) taken stuck (m ∷ ms) >>= λ x. q x.value x.rest) ≡ taken y rest → length rest < length (m ∷ ms)
    by_table None e = absurd cc
    by_table (Some x) e = omega (arith, (f x).no_longer ms rest y e)

module _ (T A : Type 0) (test : List T → Bool) (one : Reader T A) (progress : Progresses one) where
  many_ends : (n : ℕ) (ms rest : List T) (xs : List A) → length ms < n → many test one (taken []) n ms ≡ taken xs rest → test rest ≡ false
  unfolding many
  many_ends zero ms rest xs lt h = absurd (omega arith)
  many_ends (suc n) ms rest xs lt h = by_test (test ms) refl h (λ m r ys l e. many_ends n m r ys l e)
    where
      by_test : (b : Bool) → test ms ≡ b → cond b (one ms >>= λ x. many test one (taken []) n x.rest >>= λ xs. taken (x.value ∷ xs.value) xs.rest) (taken [] ms) ≡ taken xs rest
          → ((m r : List T) (ys : List A) → length m < n → many test one (taken []) n m ≡ taken ys r → test r ≡ false) → test rest ≡ false
      by_test false e h later = subst (λ (l : List T). test l ≡ false) (ok_is [] xs ms rest h).1 e
      by_test true e h later = elim (bind_cases (one ms) (λ x. many test one (taken []) n x.rest >>= λ xs. taken (x.value ∷ xs.value) xs.rest) (Some xs) rest h) [
        | inl w ↦ elim (bind_cases (many test one (taken []) n w.0.rest) (λ xs. taken (w.0.value ∷ xs.value) xs.rest) (Some xs) rest w.2) [
          | inl v ↦ subst (λ (l : List T). test l ≡ false) (ok_is (w.0.value ∷ v.0.value) xs v.0.rest rest v.2).1 (later w.0.rest v.0.rest v.0.value (omega (arith, progress ms w.0.rest w.0.value w.1)) v.1)
          | inr v ↦ absurd cc
        ]
        | inr w ↦ absurd cc
      ]

pub each_ends : {T A : Type 0} (test : List T → Bool) (one : Reader T A) → Progresses one → (ms rest : List T) (xs : List A) → each test one ms ≡ taken xs rest → test rest ≡ false
each_ends {T} {A} test one progress ms rest xs h = many_ends T A test one progress (suc (length ms)) ms rest xs (omega arith) h
