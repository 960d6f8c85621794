-- A head that is read is the one that was written, and what was written is read again.
use Rattle.std.proofs.Common.{◌≡◌, ℕ, suc, ◌+◌, ◌-◌, ◌*◌, ◌/◌, ◌%◌, ◌^◌, ◌<◌, ◌≤◌, Bool, true, false, cond, ltb, List, [], ◌∷◌, ◌++◌, length, get_or, take, drop, Result, Ok, Err, refl, sym, ap, subst, ◌∙◌, arith, inl, inr, add-one}
use Rattle.std.specs.Prelude.{IfOk, ◌↔◌, Option, Some, None}
use Rattle.std.specs.Int.{Width, w16, w32, w64, byte_len, from_be_bytes, to_be_bytes}
use Rattle.std.proofs.lemmas.Bool.{cases_lt, ltb-false, le-ltb, lt-ltb}
use Rattle.std.proofs.lemmas.Bool.Decides.{nat_tests}
use Rattle.std.proofs.lemmas.List.{take_at, take-append-drop, take_all, length-append, length-take, get_or-drop, get_or-take, get_or_past}
use Rattle.std.proofs.lemmas.Nat.{be_bytes_2, be_bytes_4, be_bytes_8, from_be_bytes-to_be_bytes_2, from_be_bytes-to_be_bytes_4, from_be_bytes-to_be_bytes_8}
use Rattle.ecd_head.specs.declared.HeadFault.{HeadFault}
use Rattle.ecd_head.specs.declared.Head.{Head}
use Rattle.ecd_head.specs.declared.HeadFault.TheVariants.{Short}
use Rattle.ecd_head.specs.Head.{IsWritable, head_bytes}
use Rattle.ecd_head.specs.Place.{StandsAt}
use Rattle.ecd_head.specs.Fault.{least_of, argument_of, extra_of, cause_behind, head_fault, head_at, placed, unless}
use Rattle.ecd_head.specs.Steps.{wide_at, argument_at, ◌>>=◌, checked, judged}

pub head_bytes-1 : (m a : ℕ) → a < 24 → head_bytes m a ≡ (32 * m + a) ∷ []
unfolding head_bytes
head_bytes-1 m a h = rw (lt-ltb a 24 h) refl

pub head_bytes-2 : (m a : ℕ) → 24 ≤ a → a < 2 ^ 8 → head_bytes m a ≡ (32 * m + 24) ∷ a ∷ []
unfolding head_bytes
head_bytes-2 m a h g = rw (le-ltb a 24 h, lt-ltb a (2 ^ 8) g) refl

pub head_bytes-3 : (m a : ℕ) → 2 ^ 8 ≤ a → a < 2 ^ 16 → head_bytes m a ≡ (32 * m + 25) ∷ to_be_bytes w16 a
unfolding head_bytes
head_bytes-3 m a h g = rw (le-ltb a 24 (omega arith), le-ltb a (2 ^ 8) h, lt-ltb a (2 ^ 16) g) refl

pub head_bytes-5 : (m a : ℕ) → 2 ^ 16 ≤ a → a < 2 ^ 32 → head_bytes m a ≡ (32 * m + 26) ∷ to_be_bytes w32 a
unfolding head_bytes
head_bytes-5 m a h g = rw (le-ltb a 24 (omega arith), le-ltb a (2 ^ 8) (omega arith), le-ltb a (2 ^ 16) h, lt-ltb a (2 ^ 32) g) refl

pub head_bytes-9 : (m a : ℕ) → 2 ^ 32 ≤ a → head_bytes m a ≡ (32 * m + 27) ∷ to_be_bytes w64 a
unfolding head_bytes
head_bytes-9 m a h = rw (le-ltb a 24 (omega arith), le-ltb a (2 ^ 8) (omega arith), le-ltb a (2 ^ 16) (omega arith), le-ltb a (2 ^ 32) h) refl

-- what a head passes
pub checked-ok : (m i a k : ℕ) → IsWritable m a → least_of i ≤ a → checked m i (a, k) ≡ Ok (record { major = m; arg = a }, k + 1)
unfolding checked
checked-ok m i a k w h = grind (arith, nat_tests, w.simple, w.known)

pub judged-again : (m i a k : ℕ) (rest : List ℕ) → IsWritable m a → i < 28 → least_of i ≤ a → (m ≡ 7 → i < 25) → argument_at i rest ≡ Ok (a, k) → judged m i rest ≡ Ok (record { major = m; arg = a }, k + 1)
unfolding judged
judged-again m i a k rest w lt least seven e = grind (arith, nat_tests, e, checked-ok m i a k w least)

pub checked-ok-is : (m i a k : ℕ) (h : Head) (n : ℕ) → checked m i (a, k) ≡ Ok (h, n) → (m ≤ 7) → a < 2 ^ 64 → (m ≡ 7 → i < 25) → (i < 24 → a ≡ i) → (i ≡ 24 → a < 256) → (h ≡ record { major = m; arg = a }) × (n ≡ k + 1) × IsWritable m a × (least_of i ≤ a)
unfolding checked
checked-ok-is m i a k h n e known fits seven small one = grind (arith, nat_tests, e)

abbrev pub IsBytes : List ℕ → Type 0
IsBytes bytes = (i : ℕ) → get_or bytes i 0 < 256

pub IsBytes-drop : (n : ℕ) (bytes : List ℕ) → IsBytes bytes → IsBytes (drop n bytes)
IsBytes-drop n bytes h i = rw get_or-drop (h (n + i))

pub IsBytes-take : (n : ℕ) (bytes : List ℕ) → IsBytes bytes → IsBytes (take n bytes)
IsBytes-take n bytes h i =
    elim (cases_lt i n) [
      | inl lt ↦ rw (get_or-take n bytes i 0 lt) (h i)
      | inr le ↦ rw (get_or_past (take n bytes) i 0 (omega (arith, length-take n bytes))) (omega arith)
    ]

guard_ok : {A : Type 0} (b : Bool) (d : HeadFault) (x y : A) → cond b (Err d) (Ok x) ≡ Ok y → (b ≡ false) × (x ≡ y)
guard_ok true d x y e = absurd cc
guard_ok false d x y e = (refl, cc)

record IsWide (w : Width) (limit : ℕ) : Type 0 where
  len : (n : ℕ) → length (to_be_bytes w n) ≡ byte_len w
  back : (bytes : List ℕ) → length bytes ≡ byte_len w → IsBytes bytes → to_be_bytes w (from_be_bytes w bytes) ≡ bytes
  again : (n : ℕ) → n < limit → from_be_bytes w (to_be_bytes w n) ≡ n
  below : (bytes : List ℕ) → IsBytes bytes → from_be_bytes w bytes < limit

wide16 : IsWide w16 (2 ^ 16)
wide16 = record {
  len = λ n. refl;
  back = λ bytes len fits. be_bytes_2 bytes _ len fits refl;
  again = λ n lt. from_be_bytes-to_be_bytes_2 n lt;
  below = λ bytes fits. omega (arith, fits 0, fits 1);
}

wide32 : IsWide w32 (2 ^ 32)
wide32 = record {
  len = λ n. refl;
  back = λ bytes len fits. be_bytes_4 bytes _ len fits refl;
  again = λ n lt. from_be_bytes-to_be_bytes_4 n lt;
  below = λ bytes fits. omega (arith, fits 0, fits 1, fits 2, fits 3);
}

wide64 : IsWide w64 (2 ^ 64)
wide64 = record {
  len = λ n. refl;
  back = λ bytes len fits. be_bytes_8 bytes _ len fits refl;
  again = λ n lt. from_be_bytes-to_be_bytes_8 n lt;
  below = λ bytes fits. omega (arith, fits 0, fits 1, fits 2, fits 3, fits 4, fits 5, fits 6, fits 7);
}

-- what an argument took
record Took (bytes text : List ℕ) (limit arg count : ℕ) : Type 0 where
  whole : bytes ≡ text ++ drop count bytes
  long : length text ≡ count
  below : arg < limit

wide_took : (w : Width) (limit : ℕ) (wide : IsWide w limit) (bytes : List ℕ) (a k : ℕ) → IsBytes bytes → wide_at w bytes ≡ Ok (a, k) → Took bytes (to_be_bytes w a) limit a k
wide_took w limit wide bytes a k fits e =
    let g = guard_ok (ltb (length bytes) (byte_len w)) Short (from_be_bytes w (take (byte_len w) bytes), byte_len w) (a, k) e in
    let long : byte_len w ≤ length bytes = ltb-false _ _ g.0 in
    let a-is : from_be_bytes w (take (byte_len w) bytes) ≡ a = ap (λ (p : ℕ × ℕ). p.0) g.1 in
    let k-is : byte_len w ≡ k = ap (λ (p : ℕ × ℕ). p.1) g.1 in
    let front : to_be_bytes w a ≡ take (byte_len w) bytes = rw (← a-is) (wide.back (take (byte_len w) bytes) (omega (arith, length-take (byte_len w) bytes)) (IsBytes-take (byte_len w) bytes fits)) in
    record {
      whole = rw (front, ← k-is) (sym (take-append-drop (byte_len w) bytes));
      long = wide.len a ∙ k-is;
      below = rw (← a-is) (wide.below (take (byte_len w) bytes) (IsBytes-take (byte_len w) bytes fits));
    }

wide_again : (w : Width) (limit : ℕ) (wide : IsWide w limit) (n : ℕ) (rest : List ℕ) → n < limit → wide_at w (to_be_bytes w n ++ rest) ≡ Ok (n, byte_len w)
wide_again w limit wide n rest lt =
    let len = wide.len n in
    let long : ltb (length (to_be_bytes w n ++ rest)) (byte_len w) ≡ false = le-ltb _ _ (omega (arith, length-append (to_be_bytes w n) rest)) in
    rw (long, take_at (to_be_bytes w n) rest (byte_len w) len, wide.again n lt) refl

-- ---- the steps give the head or the cause

abbrev Meets : ℕ → ℕ → List ℕ → Type 0
Meets m i rest = unless (cause_behind m i rest) (record { major = m; arg = argument_of i rest }, extra_of i + 1) ≡ judged m i rest

meets_small : (m i : ℕ) (rest : List ℕ) → i < 24 → Meets m i rest
unfolding cause_behind judged checked
meets_small m i rest lt = grind (arith, nat_tests)

meets_wide : (m : ℕ) (rest : List ℕ) → Meets m 24 rest × Meets m 25 rest × Meets m 26 rest × Meets m 27 rest
unfolding cause_behind judged checked
meets_wide m rest = (grind (arith, nat_tests), grind (arith, nat_tests), grind (arith, nat_tests), grind (arith, nat_tests))

meets_none : (m i : ℕ) (rest : List ℕ) → 27 < i → i < 32 → Meets m i rest
unfolding cause_behind judged checked
meets_none m i rest gt lt = grind (arith, nat_tests)

open_steps : (m i : ℕ) (rest : List ℕ) → i < 32 → Meets m i rest
open_steps m i rest lt =
    let wide = meets_wide m rest in
    elim (cases_lt i 24) [
      | inl l0 ↦ meets_small m i rest l0
      | inr g0 ↦ elim (cases_lt i 25) [
        | inl l1 ↦ subst (λ j. Meets m j rest) (omega arith) wide.0
        | inr g1 ↦ elim (cases_lt i 26) [
          | inl l2 ↦ subst (λ j. Meets m j rest) (omega arith) wide.1
          | inr g2 ↦ elim (cases_lt i 27) [
            | inl l3 ↦ subst (λ j. Meets m j rest) (omega arith) wide.2
            | inr g3 ↦ elim (cases_lt i 28) [
              | inl l4 ↦ subst (λ j. Meets m j rest) (omega arith) wide.3
              | inr g4 ↦ meets_none m i rest (omega arith) lt
            ]
          ]
        ]
      ]
    ]

pub head_at_steps : (b : ℕ) (rest : List ℕ) → head_at (b ∷ rest) ≡ judged (b / 32) (b % 32) rest
unfolding head_at head_fault
head_at_steps b rest = open_steps (b / 32) (b % 32) rest (omega arith)

pub front_is : (bytes : List ℕ) → 1 ≤ length bytes → head_at bytes ≡ judged (get_or bytes 0 0 / 32) (get_or bytes 0 0 % 32) (take (length bytes - 1) (drop 1 bytes))
front_is [] h = absurd (omega arith)
front_is (b ∷ rest) h = head_at_steps b rest ∙ ap (judged (b / 32) (b % 32)) (sym (take_all (suc (length rest) - 1) rest (omega arith)))

pub empty_is : (bytes : List ℕ) → length bytes < 1 → head_at bytes ≡ Err Short
unfolding head_at
empty_is [] h = refl
empty_is (b ∷ rest) h = absurd (omega arith)

-- a fault that is read is the first cause
unless_err : {A : Type 0} (cause : Option HeadFault) (fault : HeadFault) (x : A) → (unless cause x ≡ Err fault) ↔ (cause ≡ Some fault)
unless_err (Some f) fault x = ((λ e. cc), (λ e. cc))
unless_err None fault x = ((λ e. absurd cc), (λ e. absurd cc))

pub fault_read : (bytes : List ℕ) (fault : HeadFault) → (head_at bytes ≡ Err fault) ↔ (head_fault bytes ≡ Some fault)
unfolding head_at head_fault
fault_read [] fault = ((λ e. cc), (λ e. cc))
fault_read (b ∷ rest) fault = unless_err (cause_behind (b / 32) (b % 32) rest) fault (record { major = b / 32; arg = argument_of (b % 32) rest }, extra_of (b % 32) + 1)

placed_err : {A : Type 0} (at : ℕ) (r : Result (A × ℕ) HeadFault) (fault : HeadFault) → (placed at r ≡ Err fault) ↔ (r ≡ Err fault)
placed_err at (Ok x) fault = ((λ e. absurd cc), (λ e. absurd cc))
placed_err at (Err f) fault = ((λ e. cc), (λ e. cc))

-- the clause of the public call
pub is_fault : (bytes : List ℕ) (at : ℕ) (r : Result (Head × ℕ) HeadFault) (fault : HeadFault) → r ≡ placed at (head_at (drop at bytes)) → (r ≡ Err fault) ↔ (head_fault (drop at bytes) ≡ Some fault)
is_fault bytes at r fault e =
    let p = placed_err at (head_at (drop at bytes)) fault in
    let q = fault_read (drop at bytes) fault in
    ((λ h. q.0 (p.0 (sym e ∙ h))), (λ h. e ∙ p.1 (q.1 h)))

-- ---- what was written is read again

front_again : (m i a k : ℕ) (rest : List ℕ) → IsWritable m a → i < 28 → least_of i ≤ a → (m ≡ 7 → i < 25) → argument_at i rest ≡ Ok (a, k) → head_at ((32 * m + i) ∷ rest) ≡ Ok (record { major = m; arg = a }, k + 1)
front_again m i a k rest w lt least seven e =
    let q : (32 * m + i) / 32 ≡ m = omega arith in
    let r : (32 * m + i) % 32 ≡ i = omega arith in
    rw (head_at_steps (32 * m + i) rest, q, r) (judged-again m i a k rest w lt least seven e)

pub head_again : (m a : ℕ) (rest : List ℕ) → IsWritable m a → head_at (head_bytes m a ++ rest) ≡ Ok (record { major = m; arg = a }, length (head_bytes m a))
head_again m a rest w =
    elim (cases_lt a 24) [
      | inl lt ↦ rw (head_bytes-1 m a lt) (front_again m a a 0 rest w (omega arith) (rw (lt-ltb a 24 lt) (omega arith)) (λ e. omega arith) (rw (lt-ltb a 24 lt) refl))
      | inr l1 ↦ elim (cases_lt a (2 ^ 8)) [
        | inl lt ↦ rw (head_bytes-2 m a l1 lt) (front_again m 24 a 1 (a ∷ rest) w (omega arith) l1 (λ e. omega arith) (rw (le-ltb (suc (length rest)) 1 (omega arith)) refl))
        | inr l2 ↦ elim (cases_lt a (2 ^ 16)) [
          | inl lt ↦ rw (head_bytes-3 m a l2 lt) (front_again m 25 a 2 (to_be_bytes w16 a ++ rest) w (omega arith) l2 (λ e. absurd (elim (w.simple e) [ inl h ↦ omega arith | inr h ↦ omega arith ])) (wide_again w16 (2 ^ 16) wide16 a rest lt))
          | inr l3 ↦ elim (cases_lt a (2 ^ 32)) [
            | inl lt ↦ rw (head_bytes-5 m a l3 lt) (front_again m 26 a 4 (to_be_bytes w32 a ++ rest) w (omega arith) l3 (λ e. absurd (elim (w.simple e) [ inl h ↦ omega arith | inr h ↦ omega arith ])) (wide_again w32 (2 ^ 32) wide32 a rest lt))
            | inr l4 ↦ rw (head_bytes-9 m a l4) (front_again m 27 a 8 (to_be_bytes w64 a ++ rest) w (omega arith) l4 (λ e. absurd (elim (w.simple e) [ inl h ↦ omega arith | inr h ↦ omega arith ])) (wide_again w64 (2 ^ 64) wide64 a rest w.fits))
          ]
        ]
      ]
    ]

-- ---- what is read stands there

record ArgTook (m i a k : ℕ) (rest : List ℕ) : Type 0 where
  fits : a < 2 ^ 64
  same : i < 24 → a ≡ i
  byte : i ≡ 24 → a < 256
  shape : least_of i ≤ a → ((32 * m + i) ∷ rest ≡ head_bytes m a ++ drop k rest) × (length (head_bytes m a) ≡ k + 1)

took_small : (m i a k : ℕ) (rest : List ℕ) → i < 24 → argument_at i rest ≡ Ok (a, k) → ArgTook m i a k rest
took_small m i a k rest lt e =
    let same : (a ≡ i) × (k ≡ 0) = grind (arith, nat_tests, e) in
    rw (same.0, same.1) record { fits = omega arith; same = λ _. refl; byte = λ _. omega arith; shape = λ _. (rw (head_bytes-1 m i lt) refl, rw (head_bytes-1 m i lt) refl) }

took_byte : (m a k : ℕ) (rest : List ℕ) → IsBytes rest → argument_at 24 rest ≡ Ok (a, k) → ArgTook m 24 a k rest
took_byte m a k [] fits e = absurd cc
took_byte m a k (b ∷ rest) fits e =
    let same : (a ≡ b) × (k ≡ 1) = grind (arith, nat_tests, e) in
    let lt : b < 256 = fits 0 in
    rw (same.0, same.1) record { fits = omega arith; same = λ h. absurd (omega arith); byte = λ _. lt; shape = λ h. (rw (head_bytes-2 m b h lt) refl, rw (head_bytes-2 m b h lt) refl) }

took_wide : (w : Width) (limit : ℕ) (wide : IsWide w limit) (i m a k : ℕ) (rest : List ℕ) → IsBytes rest → 24 < i → limit ≤ 2 ^ 64 → wide_at w rest ≡ Ok (a, k)
    → (least_of i ≤ a → a < limit → head_bytes m a ≡ (32 * m + i) ∷ to_be_bytes w a) → ArgTook m i a k rest
took_wide w limit wide i m a k rest fits lt small e form =
    let t = wide_took w limit wide rest a k fits e in
    record {
      fits = omega (arith, t.below);
      same = λ h. absurd (omega arith);
      byte = λ h. absurd (omega arith);
      shape = λ h. (rw (form h t.below) (ap (λ (x : List ℕ). (32 * m + i) ∷ x) t.whole), rw (form h t.below) (omega (arith, t.long)));
    }

arg_took : (m i a k : ℕ) (rest : List ℕ) → IsBytes rest → i < 28 → argument_at i rest ≡ Ok (a, k) → ArgTook m i a k rest
arg_took m i a k rest fits lt e =
    elim (cases_lt i 24) [
      | inl l0 ↦ took_small m i a k rest l0 e
      | inr g0 ↦ elim (cases_lt i 25) [
        | inl l1 ↦ let s : i ≡ 24 = omega arith in subst (λ j. argument_at j rest ≡ Ok (a, k) → ArgTook m j a k rest) (sym s) (λ q. took_byte m a k rest fits q) e
        | inr g1 ↦ elim (cases_lt i 26) [
          | inl l2 ↦ let s : i ≡ 25 = omega arith in subst (λ j. argument_at j rest ≡ Ok (a, k) → ArgTook m j a k rest) (sym s) (λ q. took_wide w16 (2 ^ 16) wide16 25 m a k rest fits (omega arith) (omega arith) q (λ h b. head_bytes-3 m a h b)) e
          | inr g2 ↦ elim (cases_lt i 27) [
            | inl l3 ↦ let s : i ≡ 26 = omega arith in subst (λ j. argument_at j rest ≡ Ok (a, k) → ArgTook m j a k rest) (sym s) (λ q. took_wide w32 (2 ^ 32) wide32 26 m a k rest fits (omega arith) (omega arith) q (λ h b. head_bytes-5 m a h b)) e
            | inr g3 ↦ let s : i ≡ 27 = omega arith in subst (λ j. argument_at j rest ≡ Ok (a, k) → ArgTook m j a k rest) (sym s) (λ q. took_wide w64 (2 ^ 64) wide64 27 m a k rest fits (omega arith) (omega arith) q (λ h b. head_bytes-9 m a h)) e
          ]
        ]
      ]
    ]

bind_ok : {A B : Type 0} (r : Result A HeadFault) (f : A → Result B HeadFault) (y : B) → (r >>= f) ≡ Ok y → (x : A) × (r ≡ Ok x) × (f x ≡ Ok y)
bind_ok (Ok x) f y e = (x, refl, e)
bind_ok (Err d) f y e = absurd cc

guard_other : {A : Type 0} (b : Bool) (r : Result A HeadFault) (d : HeadFault) (y : A) → cond b (Err d) r ≡ Ok y → (b ≡ false) × (r ≡ Ok y)
guard_other true r d y e = absurd cc
guard_other false r d y e = (refl, e)

judged_is : (m i : ℕ) (rest : List ℕ) (h : Head) (n : ℕ) → judged m i rest ≡ Ok (h, n) → (i < 28) × (m ≡ 7 → i < 25) × ((argument_at i rest >>= checked m i) ≡ Ok (h, n))
unfolding judged
judged_is m i rest h n e = grind (arith, nat_tests, e)

-- what a head took
pub record HeadTook (bytes : List ℕ) (h : Head) (n : ℕ) : Type 0 where
  pub writable : IsWritable h.major h.arg
  pub whole : bytes ≡ head_bytes h.major h.arg ++ drop n bytes
  pub long : length (head_bytes h.major h.arg) ≡ n

head_took : (bytes : List ℕ) (m a k : ℕ) (h : Head) (n : ℕ) → h ≡ record { major = m; arg = a } → n ≡ k + 1 → HeadTook bytes (record { major = m; arg = a }) (k + 1) → HeadTook bytes h n
head_took bytes m a k h n p q t = rw (p, q) t

empty_has_none : {A : Type 0} (h : Head) (n : ℕ) → head_at [] ≡ Ok (h, n) → A
unfolding head_at
empty_has_none h n e = absurd cc

pub head_takes : (bytes : List ℕ) (h : Head) (n : ℕ) → IsBytes bytes → head_at bytes ≡ Ok (h, n) → HeadTook bytes h n
head_takes [] h n fits e = empty_has_none h n e
head_takes (b ∷ rest) h n fits e =
    let m = b / 32 in
    let i = b % 32 in
    let lt : b < 256 = fits 0 in
    let known : b / 32 ≤ 7 = omega arith in
    let whole : 32 * (b / 32) + b % 32 ≡ b = omega arith in
    let j = judged_is (b / 32) (b % 32) rest h n (sym (head_at_steps b rest) ∙ e) in
    let a = bind_ok (argument_at (b % 32) rest) (checked (b / 32) (b % 32)) (h, n) j.2 in
    let t = arg_took (b / 32) (b % 32) a.0.0 a.0.1 rest (λ k. fits (suc k)) j.0 a.1 in
    let c = checked-ok-is (b / 32) (b % 32) a.0.0 a.0.1 h n a.2 known t.fits j.1 t.same t.byte in
    let s = t.shape c.3 in
    head_took (b ∷ rest) (b / 32) a.0.0 a.0.1 h n c.0 c.1 (record { writable = c.2; whole = rw add-one (rw whole at s.0); long = s.1 })

-- ---- the clauses of the public call

abbrev done : {A : Type 0} → A → Result A HeadFault
done x = Ok x

ok_is : {A : Type 0} (x y : A) → done x ≡ done y → x ≡ y
ok_is x y e = cc

append-same : (a x y : List ℕ) → a ++ x ≡ a ++ y → x ≡ y
append-same [] x y e = e
append-same (b ∷ a) x y e = append-same a x y cc

found_by : (bytes : List ℕ) (at : ℕ) (r : Result (Head × ℕ) HeadFault) → head_at (drop at bytes) ≡ r → IsBytes (drop at bytes) → IfOk (placed at r) (λ x. IsWritable x.0.major x.0.arg × StandsAt bytes at (head_bytes x.0.major x.0.arg) x.1)
found_by bytes at (Err d) e fits = tt
found_by bytes at (Ok x) e fits =
    let t = head_takes (drop at bytes) x.0 x.1 fits e in
    (t.writable, record { there = (drop x.1 (drop at bytes), t.whole); behind = ap (λ (k : ℕ). at + k) (sym t.long) })

pub is_found : (bytes : List ℕ) (at : ℕ) (r : Result (Head × ℕ) HeadFault) → IsBytes bytes → r ≡ placed at (head_at (drop at bytes)) → IfOk r (λ x. IsWritable x.0.major x.0.arg × StandsAt bytes at (head_bytes x.0.major x.0.arg) x.1)
is_found bytes at r fits e = rw e (found_by bytes at (head_at (drop at bytes)) refl (IsBytes-drop at bytes fits))

pub is_only : (bytes : List ℕ) (at : ℕ) (r : Result (Head × ℕ) HeadFault) (h : Head) (end : ℕ) → r ≡ placed at (head_at (drop at bytes)) → IsWritable h.major h.arg → StandsAt bytes at (head_bytes h.major h.arg) end → r ≡ Ok (h, end)
is_only bytes at r h end e w s =
    let again : head_at (drop at bytes) ≡ Ok (h, length (head_bytes h.major h.arg)) = rw s.there.1 (head_again h.major h.arg s.there.0 w) in
    e ∙ (ap (placed at) again ∙ ap (λ (x : ℕ). Ok (h, x)) (sym s.behind))

pub count_fits : (bytes : List ℕ) (h : Head) (n : ℕ) → IsBytes bytes → head_at bytes ≡ Ok (h, n) → n ≤ length bytes
count_fits bytes h n fits e =
    let t = head_takes bytes h n fits e in
    omega (arith, t.long, ap length t.whole, length-append (head_bytes h.major h.arg) (drop n bytes))

-- no head begins another
pub one_head : (m a m' a' : ℕ) (x y : List ℕ) → IsWritable m a → IsWritable m' a' → head_bytes m a ++ x ≡ head_bytes m' a' ++ y → (m ≡ m') × (a ≡ a') × (x ≡ y)
one_head m a m' a' x y w w' e =
    let p = head_again m a x w in
    let q = head_again m' a' y w' in
    let same : done (record { major = m; arg = a }, length (head_bytes m a)) ≡ done (record { major = m'; arg = a' }, length (head_bytes m' a')) = sym p ∙ (ap head_at e ∙ q) in
    let heads = ok_is (record { major = m; arg = a }, length (head_bytes m a)) (record { major = m'; arg = a' }, length (head_bytes m' a')) same in
    let ms : m ≡ m' = ap (λ (p : Head × ℕ). p.0.major) heads in
    let as' : a ≡ a' = ap (λ (p : Head × ℕ). p.0.arg) heads in
    (ms, as', append-same (head_bytes m a) x y (rw (sym ms, sym as') at e))
