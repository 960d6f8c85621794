-- Unsigned integers at the front of a text.
use Rattle.std.proofs.Common.{◌≡◌, ◌≢◌, inl, inr, ℕ, ◌+◌, ◌≤◌, ◌<◌, suc, zero, Bool, true, false, ◌&&◌, List, [], ◌∷◌, ◌++◌, length, take, drop, refl, sym, ◌∙◌, ap, subst, arith, zero-add, eqb, length-take}
use Rattle.std.specs.Prelude.{nat_lt}
use Rattle.std.proofs.lemmas.Bool.Decides.{nat_tests}
use Rattle.std.proofs.lemmas.List.{take_at}
use Rattle.std.proofs.lemmas.List.Sums.{prefix_len-le-length}
use Rattle.ecd_lex.specs.declared.character.Radix.{Radix}
use Rattle.ecd_lex.specs.declared.character.Radix.TheVariants.{Decimal, Hexadecimal, Binary}
use Rattle.ecd_lex.specs.declared.number.Numeral.{Numeral}
use Rattle.ecd_lex.specs.Characters.{is_decimal, is_digit, is_x, is_b, Each, number_of}
use Rattle.ecd_lex.specs.Forms.{AreDigits, IsMarked, LeadsWithZero, IsUnsigned}
use Rattle.ecd_lex.specs.Scan.{digits_len, zero_numeral, numeral_at, numeral_len, numeral_value}
use Rattle.ecd_lex.proofs.Booleans.{tests, is_same, is_other}
use Rattle.ecd_lex.proofs.Runs.{run_all, run_stop, run_exact, run_sound}

-- ---- digits

pub digits_all : (radix : Radix) (digits more : List ℕ) → Each (is_digit radix) digits → digits_len radix (digits ++ more) ≡ length digits + digits_len radix more
unfolding digits_len
digits_all radix digits more e = run_all (is_digit radix) digits more e

pub digits_exact : (radix : Radix) (digits : List ℕ) (c : ℕ) (more : List ℕ) → Each (is_digit radix) digits → is_digit radix c ≡ false → digits_len radix (digits ++ c ∷ more) ≡ length digits
unfolding digits_len
digits_exact radix digits c more e f = run_exact (is_digit radix) digits c more e f

pub digits_none : (radix : Radix) (c : ℕ) (more : List ℕ) → is_digit radix c ≡ false → digits_len radix (c ∷ more) ≡ 0
unfolding digits_len
digits_none radix c more f = run_stop (is_digit radix) c more f

pub digits_nil : (radix : Radix) → digits_len radix [] ≡ 0
unfolding digits_len
digits_nil radix = refl

pub digits_within : (radix : Radix) (text : List ℕ) → digits_len radix text ≤ length text
unfolding digits_len
digits_within radix text = prefix_len-le-length (is_digit radix) text

some_taken : (n : ℕ) (text : List ℕ) → 0 < n → n ≤ length text → take n text ≢ []
some_taken n text h k e = omega (arith, ap length e, length-take n text)

digits_each : (radix : Radix) (text : List ℕ) → Each (is_digit radix) (take (digits_len radix text) text)
unfolding digits_len
digits_each radix text = run_sound (is_digit radix) text

-- a run of digits that is not empty
pub digits_are : (radix : Radix) (text : List ℕ) → 0 < digits_len radix text → AreDigits radix (take (digits_len radix text) text)
digits_are radix text h = (some_taken (digits_len radix text) text h (digits_within radix text), digits_each radix text)

some_digits : (digits : List ℕ) → digits ≢ [] → 0 < length digits
some_digits [] e = absurd (e refl)
some_digits (c ∷ digits) e = omega arith

-- ---- the integer behind a leading 0

abbrev pub hexadecimal : ℕ → Numeral
hexadecimal n = record { radix = Hexadecimal; mark = 2; digits = n }

abbrev pub binary : ℕ → Numeral
binary n = record { radix = Binary; mark = 2; digits = n }

abbrev pub decimal : ℕ → Numeral
decimal n = record { radix = Decimal; mark = 0; digits = n }

-- what it may be
pub data Zero (text : List ℕ) (n : Numeral) : Type 0 where
  is_hexadecimal : (x : ℕ) (more : List ℕ) → text ≡ x ∷ more → is_x x ≡ true → 0 < digits_len Hexadecimal more → n ≡ hexadecimal (digits_len Hexadecimal more) → Zero text n
  is_binary : (b : ℕ) (more : List ℕ) → text ≡ b ∷ more → is_b b ≡ true → 0 < digits_len Binary more → n ≡ binary (digits_len Binary more) → Zero text n
  is_zero : n ≡ decimal 1 → Zero text n

x_zero : is_x 0 ≡ false
unfolding is_x
x_zero = refl

b_zero : is_b 0 ≡ false
unfolding is_b
b_zero = refl

and_true : (a b : Bool) → (a && b) ≡ true → (a ≡ true) × (b ≡ true)
and_true true true e = (refl, refl)
and_true true false e = cc
and_true false b e = cc

pub zero_kind : (text : List ℕ) → Zero text (zero_numeral text)
unfolding zero_numeral
zero_kind [] = is_zero (rw (x_zero, b_zero) refl)
zero_kind (c ∷ more) = elim (tests (is_x c && nat_lt 0 (digits_len Hexadecimal more))) as (λ _. Zero (c ∷ more) (zero_numeral (c ∷ more))) [
  | inl e ↦ (let h = and_true (is_x c) (nat_lt 0 (digits_len Hexadecimal more)) e in is_hexadecimal c more refl h.0 (grind (arith, nat_tests, h.1)) (rw e refl))
  | inr e ↦ elim (tests (is_b c && nat_lt 0 (digits_len Binary more))) as (λ _. Zero (c ∷ more) (zero_numeral (c ∷ more))) [
    | inl f ↦ (let h = and_true (is_b c) (nat_lt 0 (digits_len Binary more)) f in is_binary c more refl h.0 (grind (arith, nat_tests, h.1)) (rw (e, f) refl))
    | inr f ↦ is_zero (rw (e, f) refl)
  ]
]

-- ---- by the first byte

pub numeral_zero : (c : ℕ) (text : List ℕ) → eqb c 48 ≡ true → numeral_at (c ∷ text) ≡ zero_numeral text
unfolding numeral_at
numeral_zero c text e = rw e refl

pub numeral_other : (c : ℕ) (text : List ℕ) → eqb c 48 ≡ false → numeral_at (c ∷ text) ≡ decimal (digits_len Decimal (c ∷ text))
unfolding numeral_at
numeral_other c text e = rw e refl

pub numeral_nil : numeral_at [] ≡ decimal 0
unfolding numeral_at
numeral_nil = ap decimal (digits_nil Decimal)

-- ---- what is found is an integer

pub record FoundNumeral (text : List ℕ) (n : Numeral) : Type 0 where
  pub within : numeral_len n ≤ length text
  pub unsigned : IsUnsigned (take (numeral_len n) text) (numeral_value n text)
  pub radix : unsigned.radix ≡ n.radix

two_add : (n : ℕ) → 2 + n ≡ suc (suc n)
two_add n = omega arith

x_no_decimal : (x : ℕ) → is_x x ≡ true → is_decimal x ≡ true → ⊥
unfolding is_x is_decimal
x_no_decimal x e f = grind (arith, nat_tests)

b_no_decimal : (b : ℕ) → is_b b ≡ true → is_decimal b ≡ true → ⊥
unfolding is_b is_decimal
b_no_decimal b e f = grind (arith, nat_tests)

b_no_x : (b : ℕ) → is_b b ≡ true → is_x b ≡ false
unfolding is_b is_x
b_no_x b e = grind (arith, nat_tests)

zero_digit : (c : ℕ) → c ≡ 48 → is_digit Decimal c ≡ true
unfolding is_digit is_decimal
zero_digit c e = grind (arith, nat_tests)

pub decimal_digit : (c : ℕ) → is_digit Decimal c ≡ is_decimal c
unfolding is_digit
decimal_digit c = refl

leads_first : (n c : ℕ) (text : List ℕ) → LeadsWithZero (take n (c ∷ text)) → c ≡ 48
leads_first zero c text h = absurd h
leads_first (suc n) c text h = leads_of (take n text) h
  where
    leads_of : (rest : List ℕ) → LeadsWithZero (c ∷ rest) → c ≡ 48
    leads_of [] h = absurd h
    leads_of (d ∷ rest) h = h.0

unsigned_along : (bytes other : List ℕ) (value : ℕ) (e : other ≡ bytes) (u : IsUnsigned bytes value) → (v : IsUnsigned other value) × (v.radix ≡ u.radix)
unsigned_along bytes other value e u =
    (record { radix = u.radix; digits = u.digits; are = u.are; marked = subst (IsMarked u.radix u.digits) (sym e) u.marked; short = subst (λ b. ¬ LeadsWithZero b) (sym e) u.short; value = u.value }, refl)

found_from : (text : List ℕ) (n : Numeral) (len : ℕ) → numeral_len n ≡ len → len ≤ length text → (u : IsUnsigned (take len text) (numeral_value n text)) → u.radix ≡ n.radix → FoundNumeral text n
found_from text n len e w u r =
    let v = unsigned_along (take len text) (take (numeral_len n) text) (numeral_value n text) (ap (λ k. take k text) e) u in
    record { within = omega (arith, e, w); unsigned = v.0; radix = v.1 ∙ r }

found_hex : (c x : ℕ) (more : List ℕ) → c ≡ 48 → is_x x ≡ true → 0 < digits_len Hexadecimal more → FoundNumeral (c ∷ x ∷ more) (hexadecimal (digits_len Hexadecimal more))
found_hex c x more k e h =
    let w = digits_within Hexadecimal more in
    let u : IsUnsigned (c ∷ x ∷ take (digits_len Hexadecimal more) more) (number_of Hexadecimal (take (digits_len Hexadecimal more) more)) = record {
      radix = Hexadecimal;
      digits = take (digits_len Hexadecimal more) more;
      are = digits_are Hexadecimal more h;
      marked = (x, e, ap (λ z. z ∷ x ∷ take (digits_len Hexadecimal more) more) k);
      short = λ q. x_no_decimal x e q.1;
      value = refl;
    } in
    found_from (c ∷ x ∷ more) (hexadecimal (digits_len Hexadecimal more)) (suc (suc (digits_len Hexadecimal more))) (two_add (digits_len Hexadecimal more)) (omega arith) u refl

found_bin : (c b : ℕ) (more : List ℕ) → c ≡ 48 → is_b b ≡ true → 0 < digits_len Binary more → FoundNumeral (c ∷ b ∷ more) (binary (digits_len Binary more))
found_bin c b more k e h =
    let w = digits_within Binary more in
    let u : IsUnsigned (c ∷ b ∷ take (digits_len Binary more) more) (number_of Binary (take (digits_len Binary more) more)) = record {
      radix = Binary;
      digits = take (digits_len Binary more) more;
      are = digits_are Binary more h;
      marked = (b, e, ap (λ z. z ∷ b ∷ take (digits_len Binary more) more) k);
      short = λ q. b_no_decimal b e q.1;
      value = refl;
    } in
    found_from (c ∷ b ∷ more) (binary (digits_len Binary more)) (suc (suc (digits_len Binary more))) (two_add (digits_len Binary more)) (omega arith) u refl

found_one : (c : ℕ) (text : List ℕ) → c ≡ 48 → FoundNumeral (c ∷ text) (decimal 1)
found_one c text k =
    let u : IsUnsigned (c ∷ []) (number_of Decimal (c ∷ [])) = record { radix = Decimal; digits = c ∷ []; are = (λ q. cc, (zero_digit c k, tt)); marked = refl; short = λ q. q; value = refl } in
    found_from (c ∷ text) (decimal 1) 1 refl (omega arith) u refl

found_zero : (c : ℕ) (text : List ℕ) → c ≡ 48 → (n : Numeral) → Zero text n → FoundNumeral (c ∷ text) n
found_zero c text k n (is_hexadecimal x more t e h q) =
    subst (FoundNumeral (c ∷ text)) (sym q) (subst (λ y. FoundNumeral (c ∷ y) (hexadecimal (digits_len Hexadecimal more))) (sym t) (found_hex c x more k e h))
found_zero c text k n (is_binary b more t e h q) =
    subst (FoundNumeral (c ∷ text)) (sym q) (subst (λ y. FoundNumeral (c ∷ y) (binary (digits_len Binary more))) (sym t) (found_bin c b more k e h))
found_zero c text k n (is_zero q) = subst (FoundNumeral (c ∷ text)) (sym q) (found_one c text k)

found_other : (c : ℕ) (text : List ℕ) → eqb c 48 ≡ false → 0 < digits_len Decimal (c ∷ text) → FoundNumeral (c ∷ text) (decimal (digits_len Decimal (c ∷ text)))
found_other c text e h =
    let w = digits_within Decimal (c ∷ text) in
    let u : IsUnsigned (take (digits_len Decimal (c ∷ text)) (c ∷ text)) (number_of Decimal (take (digits_len Decimal (c ∷ text)) (c ∷ text))) = record {
      radix = Decimal;
      digits = take (digits_len Decimal (c ∷ text)) (c ∷ text);
      are = digits_are Decimal (c ∷ text) h;
      marked = refl;
      short = λ q. is_other c 48 e (leads_first (digits_len Decimal (c ∷ text)) c text q);
      value = refl;
    } in
    found_from (c ∷ text) (decimal (digits_len Decimal (c ∷ text))) (digits_len Decimal (c ∷ text)) (zero-add (digits_len Decimal (c ∷ text))) w u refl

pub numeral_sound : (text : List ℕ) → 0 < (numeral_at text).digits → FoundNumeral text (numeral_at text)
numeral_sound [] h = absurd (let e = ap (λ n. n.digits) numeral_nil in omega (arith, e))
numeral_sound (c ∷ text) h = elim (tests (eqb c 48)) as (λ _. FoundNumeral (c ∷ text) (numeral_at (c ∷ text))) [
  | inl e ↦ subst (FoundNumeral (c ∷ text)) (sym (numeral_zero c text e)) (found_zero c text (is_same c 48 e) (zero_numeral text) (zero_kind text))
  | inr e ↦ (let d = ap (λ n. n.digits) (numeral_other c text e) in subst (FoundNumeral (c ∷ text)) (sym (numeral_other c text e)) (found_other c text e (omega (arith, d))))
]

-- ---- each integer at the front is found, or a longer one

pub record CoversNumeral (text bytes : List ℕ) (value : ℕ) (n : Numeral) : Type 0 where
  pub longer : length bytes ≤ numeral_len n
  pub same : length bytes ≡ numeral_len n → numeral_value n text ≡ value
  pub some : 0 < n.digits

zero_hex : (x : ℕ) (more : List ℕ) → is_x x ≡ true → 0 < digits_len Hexadecimal more → zero_numeral (x ∷ more) ≡ hexadecimal (digits_len Hexadecimal more)
unfolding zero_numeral
zero_hex x more e h = let l : nat_lt 0 (digits_len Hexadecimal more) ≡ true = grind (arith, nat_tests) in rw (e, l) refl

zero_bin : (b : ℕ) (more : List ℕ) → is_b b ≡ true → 0 < digits_len Binary more → zero_numeral (b ∷ more) ≡ binary (digits_len Binary more)
unfolding zero_numeral
zero_bin b more e h = let l : nat_lt 0 (digits_len Binary more) ≡ true = grind (arith, nat_tests) in rw (b_no_x b e, e, l) refl

zero_one : (c : ℕ) (more : List ℕ) → is_x c ≡ false → is_b c ≡ false → zero_numeral (c ∷ more) ≡ decimal 1
unfolding zero_numeral
zero_one c more e f = rw (e, f) refl

-- digits taken again
taken : (digits more : List ℕ) (k : ℕ) → k ≡ 0 → take (length digits + k) (digits ++ more) ≡ digits
taken digits more k e = take_at digits more (length digits + k) (omega arith)

covers_zero : (c : ℕ) (more : List ℕ) (n : Numeral) → Zero more n → CoversNumeral (c ∷ more) (c ∷ []) (number_of Decimal (c ∷ [])) n
covers_zero c more n (is_hexadecimal x rest t e h q) = subst (CoversNumeral (c ∷ more) (c ∷ []) (number_of Decimal (c ∷ []))) (sym q) record { longer = omega arith; same = λ z. absurd (omega (arith, z)); some = h }
covers_zero c more n (is_binary b rest t e h q) = subst (CoversNumeral (c ∷ more) (c ∷ []) (number_of Decimal (c ∷ []))) (sym q) record { longer = omega arith; same = λ z. absurd (omega (arith, z)); some = h }
covers_zero c more n (is_zero q) = subst (CoversNumeral (c ∷ more) (c ∷ []) (number_of Decimal (c ∷ []))) (sym q) record { longer = omega arith; same = λ z. refl; some = omega arith }

covers_other : (c : ℕ) (digits more : List ℕ) → eqb c 48 ≡ false → Each (is_digit Decimal) (c ∷ digits) →
    CoversNumeral ((c ∷ digits) ++ more) (c ∷ digits) (number_of Decimal (c ∷ digits)) (numeral_at ((c ∷ digits) ++ more))
covers_other c digits more e each =
    let q : numeral_at ((c ∷ digits) ++ more) ≡ decimal (length (c ∷ digits) + digits_len Decimal more) = numeral_other c (digits ++ more) e ∙ ap decimal (digits_all Decimal (c ∷ digits) more each) in
    subst (CoversNumeral ((c ∷ digits) ++ more) (c ∷ digits) (number_of Decimal (c ∷ digits))) (sym q) record {
      longer = omega arith;
      same = λ z. ap (number_of Decimal) (taken (c ∷ digits) more (digits_len Decimal more) (omega (arith, z)));
      some = omega arith;
    }

covers_decimal : (digits more : List ℕ) → AreDigits Decimal digits → ¬ LeadsWithZero digits → CoversNumeral (digits ++ more) digits (number_of Decimal digits) (numeral_at (digits ++ more))
covers_decimal [] more are short = absurd (are.0 refl)
covers_decimal (c ∷ []) more are short = elim (tests (eqb c 48)) as (λ _. CoversNumeral (c ∷ more) (c ∷ []) (number_of Decimal (c ∷ [])) (numeral_at (c ∷ more))) [
  | inl e ↦ subst (CoversNumeral (c ∷ more) (c ∷ []) (number_of Decimal (c ∷ []))) (sym (numeral_zero c more e)) (covers_zero c more (zero_numeral more) (zero_kind more))
  | inr e ↦ covers_other c [] more e are.1
]
covers_decimal (c ∷ d ∷ digits) more are short = elim (tests (eqb c 48)) as (λ _. CoversNumeral ((c ∷ d ∷ digits) ++ more) (c ∷ d ∷ digits) (number_of Decimal (c ∷ d ∷ digits)) (numeral_at ((c ∷ d ∷ digits) ++ more))) [
  | inl e ↦ absurd (short (is_same c 48 e, sym (decimal_digit d) ∙ are.1.1.0))
  | inr e ↦ covers_other c (d ∷ digits) more e are.1
]

covers_hex : (x : ℕ) (digits more : List ℕ) → is_x x ≡ true → AreDigits Hexadecimal digits →
    CoversNumeral (48 ∷ x ∷ digits ++ more) (48 ∷ x ∷ digits) (number_of Hexadecimal digits) (numeral_at (48 ∷ x ∷ digits ++ more))
covers_hex x digits more e are =
    let a = digits_all Hexadecimal digits more are.1 in
    let s = some_digits digits are.0 in
    let q : numeral_at (48 ∷ x ∷ digits ++ more) ≡ hexadecimal (length digits + digits_len Hexadecimal more) = numeral_zero 48 (x ∷ digits ++ more) refl ∙ (zero_hex x (digits ++ more) e (omega (arith, a, s)) ∙ ap hexadecimal a) in
    subst (CoversNumeral (48 ∷ x ∷ digits ++ more) (48 ∷ x ∷ digits) (number_of Hexadecimal digits)) (sym q) record {
      longer = omega arith;
      same = λ z. ap (number_of Hexadecimal) (taken digits more (digits_len Hexadecimal more) (omega (arith, z)));
      some = omega (arith, s);
    }

covers_bin : (b : ℕ) (digits more : List ℕ) → is_b b ≡ true → AreDigits Binary digits →
    CoversNumeral (48 ∷ b ∷ digits ++ more) (48 ∷ b ∷ digits) (number_of Binary digits) (numeral_at (48 ∷ b ∷ digits ++ more))
covers_bin b digits more e are =
    let a = digits_all Binary digits more are.1 in
    let s = some_digits digits are.0 in
    let q : numeral_at (48 ∷ b ∷ digits ++ more) ≡ binary (length digits + digits_len Binary more) = numeral_zero 48 (b ∷ digits ++ more) refl ∙ (zero_bin b (digits ++ more) e (omega (arith, a, s)) ∙ ap binary a) in
    subst (CoversNumeral (48 ∷ b ∷ digits ++ more) (48 ∷ b ∷ digits) (number_of Binary digits)) (sym q) record {
      longer = omega arith;
      same = λ z. ap (number_of Binary) (taken digits more (digits_len Binary more) (omega (arith, z)));
      some = omega (arith, s);
    }

covers_by : (radix : Radix) (digits bytes more : List ℕ) → AreDigits radix digits → IsMarked radix digits bytes → ¬ LeadsWithZero bytes → CoversNumeral (bytes ++ more) bytes (number_of radix digits) (numeral_at (bytes ++ more))
covers_by Decimal digits bytes more are m short =
    subst (λ y. CoversNumeral (bytes ++ more) bytes (number_of Decimal y) (numeral_at (bytes ++ more))) m (covers_decimal bytes more (subst (AreDigits Decimal) (sym m) are) short)
covers_by Hexadecimal digits bytes more are (x, e, m) short =
    subst (λ y. CoversNumeral (y ++ more) y (number_of Hexadecimal digits) (numeral_at (y ++ more))) (sym m) (covers_hex x digits more e are)
covers_by Binary digits bytes more are (b, e, m) short =
    subst (λ y. CoversNumeral (y ++ more) y (number_of Binary digits) (numeral_at (y ++ more))) (sym m) (covers_bin b digits more e are)

pub numeral_most : (bytes more : List ℕ) (value : ℕ) → IsUnsigned bytes value → CoversNumeral (bytes ++ more) bytes value (numeral_at (bytes ++ more))
numeral_most bytes more value u =
    subst (λ v. CoversNumeral (bytes ++ more) bytes v (numeral_at (bytes ++ more))) (sym u.value) (covers_by u.radix u.digits bytes more u.are u.marked u.short)

-- ---- before a byte that goes on with no integer

pub record EndsDigits (radix : Radix) (c : ℕ) : Type 0 where
  pub digit : is_digit radix c ≡ false
  pub x : is_x c ≡ false
  pub b : is_b c ≡ false

abbrev pub mark_len : Radix → ℕ
mark_len Decimal = 0
mark_len Hexadecimal = 2
mark_len Binary = 2

abbrev pub exactly : Radix → ℕ → Numeral
exactly radix n = record { radix = radix; mark = mark_len radix; digits = n }

exact_decimal : (digits : List ℕ) (c : ℕ) (more : List ℕ) → AreDigits Decimal digits → ¬ LeadsWithZero digits → EndsDigits Decimal c → numeral_at (digits ++ c ∷ more) ≡ decimal (length digits)
exact_decimal [] c more are short f = absurd (are.0 refl)
exact_decimal (d ∷ []) c more are short f = elim (tests (eqb d 48)) as (λ _. numeral_at (d ∷ c ∷ more) ≡ decimal 1) [
  | inl e ↦ numeral_zero d (c ∷ more) e ∙ zero_one c more f.x f.b
  | inr e ↦ numeral_other d (c ∷ more) e ∙ ap decimal (digits_exact Decimal (d ∷ []) c more are.1 f.digit)
]
exact_decimal (d ∷ d' ∷ digits) c more are short f = elim (tests (eqb d 48)) as (λ _. numeral_at ((d ∷ d' ∷ digits) ++ c ∷ more) ≡ decimal (length (d ∷ d' ∷ digits))) [
  | inl e ↦ absurd (short (is_same d 48 e, sym (decimal_digit d') ∙ are.1.1.0))
  | inr e ↦ numeral_other d ((d' ∷ digits) ++ c ∷ more) e ∙ ap decimal (digits_exact Decimal (d ∷ d' ∷ digits) c more are.1 f.digit)
]

pub numeral_exact : (radix : Radix) (digits number : List ℕ) (c : ℕ) (more : List ℕ) → AreDigits radix digits → IsMarked radix digits number → ¬ LeadsWithZero number → EndsDigits radix c →
    numeral_at (number ++ c ∷ more) ≡ exactly radix (length digits)
numeral_exact Decimal digits number c more are m short f =
    subst (λ y. numeral_at (number ++ c ∷ more) ≡ decimal (length y)) m (exact_decimal number c more (subst (AreDigits Decimal) (sym m) are) short f)
numeral_exact Hexadecimal digits number c more are (x, e, m) short f =
    let a = digits_exact Hexadecimal digits c more are.1 f.digit in
    let s = some_digits digits are.0 in
    subst (λ y. numeral_at (y ++ c ∷ more) ≡ hexadecimal (length digits)) (sym m)
    (numeral_zero 48 (x ∷ digits ++ c ∷ more) refl ∙ (zero_hex x (digits ++ c ∷ more) e (omega (arith, a, s)) ∙ ap hexadecimal a))
numeral_exact Binary digits number c more are (b, e, m) short f =
    let a = digits_exact Binary digits c more are.1 f.digit in
    let s = some_digits digits are.0 in
    subst (λ y. numeral_at (y ++ c ∷ more) ≡ binary (length digits)) (sym m)
    (numeral_zero 48 (b ∷ digits ++ c ∷ more) refl ∙ (zero_bin b (digits ++ c ∷ more) e (omega (arith, a, s)) ∙ ap binary a))

pub marked_len : (radix : Radix) (digits number : List ℕ) → IsMarked radix digits number → length number ≡ numeral_len (exactly radix (length digits))
marked_len Decimal digits number m = ap length m ∙ sym (zero-add (length digits))
marked_len Hexadecimal digits number (x, e, m) = ap length m ∙ sym (two_add (length digits))
marked_len Binary digits number (b, e, m) = ap length m ∙ sym (two_add (length digits))

taken_exactly : (digits more : List ℕ) → take (length digits) (digits ++ more) ≡ digits
taken_exactly digits more = take_at digits more (length digits) refl

pub marked_value : (radix : Radix) (digits number more : List ℕ) → IsMarked radix digits number → numeral_value (exactly radix (length digits)) (number ++ more) ≡ number_of radix digits
marked_value Decimal digits number more m = subst (λ y. number_of Decimal (take (length digits) (y ++ more)) ≡ number_of Decimal digits) (sym m) (ap (number_of Decimal) (taken_exactly digits more))
marked_value Hexadecimal digits number more (x, e, m) = subst (λ y. number_of Hexadecimal (take (length digits) (drop 2 (y ++ more))) ≡ number_of Hexadecimal digits) (sym m) (ap (number_of Hexadecimal) (taken_exactly digits more))
marked_value Binary digits number more (b, e, m) = subst (λ y. number_of Binary (take (length digits) (drop 2 (y ++ more))) ≡ number_of Binary digits) (sym m) (ap (number_of Binary) (taken_exactly digits more))
