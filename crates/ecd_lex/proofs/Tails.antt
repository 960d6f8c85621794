-- Fractions and exponents.
use Rattle.std.proofs.Common.{◌≡◌, ◌≢◌, ◌⊎◌, inl, inr, ℕ, ◌+◌, ◌≤◌, ◌<◌, suc, zero, Bool, true, false, ◌&&◌, List, [], ◌∷◌, ◌++◌, length, take, drop, refl, sym, ◌∙◌, ap, subst, arith, one-add, zero-add, cond, eqb, length-append, length-take, length-drop, append_assoc}
use Rattle.std.specs.Prelude.{nat_lt}
use Rattle.std.proofs.lemmas.Bool.Decides.{nat_tests}
use Rattle.std.proofs.lemmas.List.{drop_at}
use Rattle.ecd_lex.specs.declared.character.Radix.{Radix}
use Rattle.ecd_lex.specs.declared.character.Radix.TheVariants.{Decimal, Hexadecimal, Binary}
use Rattle.ecd_lex.specs.Characters.{is_decimal, is_digit, is_x, is_b, leads_exponent, is_plus_or_minus}
use Rattle.ecd_lex.specs.Forms.{AreDigits, IsFraction, IsSign, IsExponent, IsEnough, IsFloatTail}
use Rattle.ecd_lex.specs.Scan.{digits_len, fraction_len, sign_len, power_len, exponent_len, tail_from, tail_len}
use Rattle.ecd_lex.proofs.Booleans.{tests, other_is, is_same}
use Rattle.ecd_lex.proofs.Numerals.{digits_all, digits_exact, digits_nil, digits_within, digits_are, EndsDigits}

and_true : (a b : Bool) → (a && b) ≡ true → (a ≡ true) × (b ≡ true)
and_true true true e = (refl, refl)
and_true true false e = cc
and_true false b e = cc

lt_true : (n : ℕ) → 0 < n → nat_lt 0 n ≡ true
lt_true n h = grind (arith, nat_tests)

true_lt : (n : ℕ) → nat_lt 0 n ≡ true → 0 < n
true_lt n h = grind (arith, nat_tests)

some_length : (digits : List ℕ) → digits ≢ [] → 0 < length digits
some_length [] e = absurd (e refl)
some_length (c ∷ digits) e = omega arith

take_nil : (k : ℕ) → take {A = ℕ} k [] ≡ []
take_nil zero = refl
take_nil (suc k) = refl

pub take_add : (m n : ℕ) (text : List ℕ) → take (m + n) text ≡ take m text ++ take n (drop m text)
take_add zero n text = rw (zero-add n) refl
take_add (suc m) n [] = take_nil (suc m + n) ∙ sym (take_nil n)
take_add (suc m) n (c ∷ text) = let e : suc m + n ≡ suc (m + n) = omega arith in rw e (ap (λ x. c ∷ x) (take_add m n text))

-- ---- fractions

pub record FoundBytes (P : List ℕ → Type 0) (text : List ℕ) (n : ℕ) : Type 0 where
  pub within : n ≤ length text
  pub is : P (take n text)

fraction_yes : (radix : Radix) (c : ℕ) (text : List ℕ) → (eqb c 46 && nat_lt 0 (digits_len radix text)) ≡ true → fraction_len radix (c ∷ text) ≡ suc (digits_len radix text)
unfolding fraction_len
fraction_yes radix c text e = rw (e, one-add) refl

fraction_no : (radix : Radix) (c : ℕ) (text : List ℕ) → (eqb c 46 && nat_lt 0 (digits_len radix text)) ≡ false → fraction_len radix (c ∷ text) ≡ 0
unfolding fraction_len
fraction_no radix c text e = rw e refl

fraction_nil : (radix : Radix) → fraction_len radix [] ≡ 0
unfolding fraction_len
fraction_nil radix = refl

pub fraction_sound : (radix : Radix) (text : List ℕ) → 0 < fraction_len radix text → FoundBytes (IsFraction radix) text (fraction_len radix text)
fraction_sound radix [] h = absurd (let e = fraction_nil radix in omega (arith, e))
fraction_sound radix (c ∷ text) h = elim (tests (eqb c 46 && nat_lt 0 (digits_len radix text))) as (λ _. FoundBytes (IsFraction radix) (c ∷ text) (fraction_len radix (c ∷ text))) [
  | inl e ↦ (let t = and_true (eqb c 46) (nat_lt 0 (digits_len radix text)) e in let w = digits_within radix text in
      subst (FoundBytes (IsFraction radix) (c ∷ text)) (sym (fraction_yes radix c text e)) record {
        within = omega arith;
        is = (take (digits_len radix text) text, digits_are radix text (true_lt (digits_len radix text) t.1), ap (λ z. z ∷ take (digits_len radix text) text) (is_same c 46 t.0));
      })
  | inr e ↦ absurd (let z = fraction_no radix c text e in omega (arith, z))
]

fraction_dot : (radix : Radix) (text : List ℕ) → 0 < digits_len radix text → fraction_len radix (46 ∷ text) ≡ suc (digits_len radix text)
fraction_dot radix text h = fraction_yes radix 46 text (rw (lt_true (digits_len radix text) h) refl)

pub fraction_most : (radix : Radix) (bytes more : List ℕ) → IsFraction radix bytes → length bytes ≤ fraction_len radix (bytes ++ more)
fraction_most radix bytes more (digits, are, is) =
    let a = digits_all radix digits more are.1 in
    let s = some_length digits are.0 in
    subst (λ y. length y ≤ fraction_len radix (y ++ more)) (sym is) (let f = fraction_dot radix (digits ++ more) (omega (arith, a, s)) in omega (arith, f, a))

pub fraction_exact : (radix : Radix) (bytes : List ℕ) (c : ℕ) (more : List ℕ) → IsFraction radix bytes → is_digit radix c ≡ false → fraction_len radix (bytes ++ c ∷ more) ≡ length bytes
fraction_exact radix bytes c more (digits, are, is) f =
    let a = digits_exact radix digits c more are.1 f in
    let s = some_length digits are.0 in
    subst (λ y. fraction_len radix (y ++ c ∷ more) ≡ length y) (sym is) (let d = fraction_dot radix (digits ++ c ∷ more) (omega (arith, a, s)) in omega (arith, d, a))

pub fraction_none : (radix : Radix) (c : ℕ) (text : List ℕ) → eqb c 46 ≡ false → fraction_len radix (c ∷ text) ≡ 0
fraction_none radix c text e = fraction_no radix c text (rw e refl)

-- ---- exponents

no_sign : (d : ℕ) → is_digit Decimal d ≡ true → is_plus_or_minus d ≡ false
unfolding is_digit is_decimal is_plus_or_minus
no_sign d e = grind (arith, nat_tests)

sign_yes : (c : ℕ) (text : List ℕ) → is_plus_or_minus c ≡ true → sign_len (c ∷ text) ≡ 1
unfolding sign_len
sign_yes c text e = rw e refl

sign_no : (c : ℕ) (text : List ℕ) → is_plus_or_minus c ≡ false → sign_len (c ∷ text) ≡ 0
unfolding sign_len
sign_no c text e = rw e refl

power_signed : (c : ℕ) (text : List ℕ) → is_plus_or_minus c ≡ true → power_len (c ∷ text) ≡ (cond (nat_lt 0 (digits_len Decimal text)) (1 + digits_len Decimal text) 0)
unfolding power_len
power_signed c text e = rw (sign_yes c text e) refl

power_plain : (c : ℕ) (text : List ℕ) → is_plus_or_minus c ≡ false → power_len (c ∷ text) ≡ (cond (nat_lt 0 (digits_len Decimal (c ∷ text))) (0 + digits_len Decimal (c ∷ text)) 0)
unfolding power_len
power_plain c text e = rw (sign_no c text e) refl

no_sign_zero : is_plus_or_minus 0 ≡ false
unfolding is_plus_or_minus
no_sign_zero = refl

power_nil : power_len [] ≡ 0
unfolding power_len sign_len
power_nil = rw (no_sign_zero, digits_nil Decimal) refl

pub record IsPower (bytes : List ℕ) : Type 0 where
  pub sign : List ℕ
  pub digits : List ℕ
  pub signed : IsSign sign
  pub are : AreDigits Decimal digits
  pub is : bytes ≡ sign ++ digits

pub power_sound : (text : List ℕ) → 0 < power_len text → FoundBytes IsPower text (power_len text)
power_sound [] h = absurd (let z = power_nil in omega (arith, z))
power_sound (c ∷ text) h = elim (tests (is_plus_or_minus c)) as (λ _. FoundBytes IsPower (c ∷ text) (power_len (c ∷ text))) [
  | inl e ↦ elim (tests (nat_lt 0 (digits_len Decimal text))) as (λ _. FoundBytes IsPower (c ∷ text) (power_len (c ∷ text))) [
    | inl f ↦ (let w = digits_within Decimal text in let q : power_len (c ∷ text) ≡ suc (digits_len Decimal text) = power_signed c text e ∙ rw (f, one-add) refl in
        subst (FoundBytes IsPower (c ∷ text)) (sym q) record {
          within = omega arith;
          is = record { sign = c ∷ []; digits = take (digits_len Decimal text) text; signed = e; are = digits_are Decimal text (true_lt (digits_len Decimal text) f); is = refl };
        })
    | inr f ↦ absurd (let q : power_len (c ∷ text) ≡ 0 = power_signed c text e ∙ rw f refl in omega (arith, q))
  ]
  | inr e ↦ elim (tests (nat_lt 0 (digits_len Decimal (c ∷ text)))) as (λ _. FoundBytes IsPower (c ∷ text) (power_len (c ∷ text))) [
    | inl f ↦ (let w = digits_within Decimal (c ∷ text) in let q : power_len (c ∷ text) ≡ digits_len Decimal (c ∷ text) = power_plain c text e ∙ rw (f, zero-add) refl in
        subst (FoundBytes IsPower (c ∷ text)) (sym q) record {
          within = w;
          is = record { sign = []; digits = take (digits_len Decimal (c ∷ text)) (c ∷ text); signed = tt; are = digits_are Decimal (c ∷ text) (true_lt (digits_len Decimal (c ∷ text)) f); is = refl };
        })
    | inr f ↦ absurd (let q : power_len (c ∷ text) ≡ 0 = power_plain c text e ∙ rw f refl in omega (arith, q))
  ]
]

pub power_most : (sign digits more : List ℕ) → IsSign sign → AreDigits Decimal digits → length sign + length digits ≤ power_len (sign ++ (digits ++ more))
power_most [] [] more s are = absurd (are.0 refl)
power_most [] (d ∷ digits) more s are =
    let a = digits_all Decimal (d ∷ digits) more are.1 in
    let p = power_plain d (digits ++ more) (no_sign d are.1.0) in
    let q : power_len (d ∷ (digits ++ more)) ≡ 0 + digits_len Decimal (d ∷ (digits ++ more)) = p ∙ rw (lt_true (digits_len Decimal (d ∷ (digits ++ more))) (omega (arith, a))) refl in
    omega (arith, q, a)
power_most (c ∷ []) digits more s are =
    let a = digits_all Decimal digits more are.1 in
    let l = some_length digits are.0 in
    let q : power_len (c ∷ (digits ++ more)) ≡ 1 + digits_len Decimal (digits ++ more) = power_signed c (digits ++ more) s ∙ rw (lt_true (digits_len Decimal (digits ++ more)) (omega (arith, a, l))) refl in
    omega (arith, q, a)
power_most (c ∷ d ∷ sign) digits more s are = absurd s

exponent_yes : (radix : Radix) (c : ℕ) (text : List ℕ) → (leads_exponent radix c && nat_lt 0 (power_len text)) ≡ true → exponent_len radix (c ∷ text) ≡ suc (power_len text)
unfolding exponent_len
exponent_yes radix c text e = rw (e, one-add) refl

exponent_no : (radix : Radix) (c : ℕ) (text : List ℕ) → (leads_exponent radix c && nat_lt 0 (power_len text)) ≡ false → exponent_len radix (c ∷ text) ≡ 0
unfolding exponent_len
exponent_no radix c text e = rw e refl

no_lead : (radix : Radix) → leads_exponent radix 0 ≡ false
unfolding leads_exponent
no_lead Decimal = refl
no_lead Hexadecimal = refl
no_lead Binary = refl

exponent_nil : (radix : Radix) → exponent_len radix [] ≡ 0
unfolding exponent_len
exponent_nil radix = rw (no_lead radix) refl

pub exponent_none : (radix : Radix) (c : ℕ) (text : List ℕ) → leads_exponent radix c ≡ false → exponent_len radix (c ∷ text) ≡ 0
exponent_none radix c text e = exponent_no radix c text (rw e refl)

exponent_of : (radix : Radix) (mark : ℕ) (bytes : List ℕ) → leads_exponent radix mark ≡ true → IsPower bytes → IsExponent radix (mark ∷ bytes)
exponent_of radix mark bytes e p = record { mark = mark; sign = p.sign; digits = p.digits; leads = e; signed = p.signed; are = p.are; is = ap (λ z. mark ∷ z) p.is }

pub exponent_sound : (radix : Radix) (text : List ℕ) → 0 < exponent_len radix text → FoundBytes (IsExponent radix) text (exponent_len radix text)
exponent_sound radix [] h = absurd (let z = exponent_nil radix in omega (arith, z))
exponent_sound radix (c ∷ text) h = elim (tests (leads_exponent radix c && nat_lt 0 (power_len text))) as (λ _. FoundBytes (IsExponent radix) (c ∷ text) (exponent_len radix (c ∷ text))) [
  | inl e ↦ (let t = and_true (leads_exponent radix c) (nat_lt 0 (power_len text)) e in let p = power_sound text (true_lt (power_len text) t.1) in let w = p.within in
      subst (FoundBytes (IsExponent radix) (c ∷ text)) (sym (exponent_yes radix c text e)) record { within = omega arith; is = exponent_of radix c (take (power_len text) text) t.0 p.is })
  | inr e ↦ absurd (let z = exponent_no radix c text e in omega (arith, z))
]

pub exponent_most : (radix : Radix) (bytes more : List ℕ) → IsExponent radix bytes → length bytes ≤ exponent_len radix (bytes ++ more)
exponent_most radix bytes more x =
    let p = power_most x.sign x.digits more x.signed x.are in
    let l = some_length x.digits x.are.0 in
    let a : (x.sign ++ x.digits) ++ more ≡ x.sign ++ (x.digits ++ more) = append_assoc x.sign x.digits more in
    let h : 0 < power_len ((x.sign ++ x.digits) ++ more) = rw a (omega (arith, p, l)) in
    let y : exponent_len radix (x.mark ∷ ((x.sign ++ x.digits) ++ more)) ≡ suc (power_len ((x.sign ++ x.digits) ++ more)) = exponent_yes radix x.mark ((x.sign ++ x.digits) ++ more) (rw (x.leads, lt_true (power_len ((x.sign ++ x.digits) ++ more)) h) refl) in
    let z = ap power_len a in
    subst (λ b. length b ≤ exponent_len radix (b ++ more)) (sym x.is) (omega (arith, y, z, p, length-append x.sign x.digits))

-- ---- both

point_no_lead : (radix : Radix) → leads_exponent radix 46 ≡ false
unfolding leads_exponent
point_no_lead Decimal = refl
point_no_lead Hexadecimal = refl
point_no_lead Binary = refl

star_no_lead : (radix : Radix) → leads_exponent radix 42 ≡ false
unfolding leads_exponent
star_no_lead Decimal = refl
star_no_lead Hexadecimal = refl
star_no_lead Binary = refl

lead_no_point : (radix : Radix) (c : ℕ) → leads_exponent radix c ≡ true → eqb c 46 ≡ false
unfolding leads_exponent
lead_no_point Decimal c e = grind (arith, nat_tests)
lead_no_point Hexadecimal c e = grind (arith, nat_tests)
lead_no_point Binary c e = cc

binary_no_exponent : (text : List ℕ) → exponent_len Binary text ≡ 0
unfolding leads_exponent
binary_no_exponent [] = exponent_nil Binary
binary_no_exponent (c ∷ text) = exponent_none Binary c text refl

point_ends : (radix : Radix) → EndsDigits radix 46
unfolding is_digit is_decimal is_x is_b
point_ends Decimal = record { digit = refl; x = refl; b = refl }
point_ends Hexadecimal = record { digit = refl; x = refl; b = refl }
point_ends Binary = record { digit = refl; x = refl; b = refl }

pub star_ends : (radix : Radix) → EndsDigits radix 42
unfolding is_digit is_decimal is_x is_b
star_ends Decimal = record { digit = refl; x = refl; b = refl }
star_ends Hexadecimal = record { digit = refl; x = refl; b = refl }
star_ends Binary = record { digit = refl; x = refl; b = refl }

lead_digit : (radix : Radix) (c : ℕ) → leads_exponent radix c ≡ true → is_digit radix c ≡ false
unfolding leads_exponent is_digit is_decimal
lead_digit Decimal c e = grind (arith, nat_tests)
lead_digit Hexadecimal c e = grind (arith, nat_tests)
lead_digit Binary c e = cc

lead_x : (radix : Radix) (c : ℕ) → leads_exponent radix c ≡ true → is_x c ≡ false
unfolding leads_exponent is_x
lead_x Decimal c e = grind (arith, nat_tests)
lead_x Hexadecimal c e = grind (arith, nat_tests)
lead_x Binary c e = cc

lead_b : (radix : Radix) (c : ℕ) → leads_exponent radix c ≡ true → is_b c ≡ false
unfolding leads_exponent is_b
lead_b Decimal c e = grind (arith, nat_tests)
lead_b Hexadecimal c e = grind (arith, nat_tests)
lead_b Binary c e = cc

lead_ends : (radix : Radix) (c : ℕ) → leads_exponent radix c ≡ true → EndsDigits radix c
lead_ends radix c e = record { digit = lead_digit radix c e; x = lead_x radix c e; b = lead_b radix c e }

tail_parts : (radix : Radix) (text : List ℕ) (f e : ℕ) → fraction_len radix text ≡ f → exponent_len radix (drop f text) ≡ e → tail_len radix text ≡ tail_from radix f e
unfolding tail_len
tail_parts radix text f e p q = rw (p, q) refl

zero_or_more : (n : ℕ) → (n ≡ 0) ⊎ (0 < n)
zero_or_more zero = inl refl
zero_or_more (suc n) = inr (omega arith)

no_taken : (n : ℕ) (text : List ℕ) → 0 < n → n ≤ length text → take n text ≢ []
no_taken n text h k e = omega (arith, ap length e, length-take n text)

no_tail : (f e : ℕ) → e ≡ 0 → 0 < (cond (eqb e 0) 0 (f + e)) → ⊥
no_tail f e z h = grind (arith, nat_tests)

tail_enough : (radix : Radix) (text : List ℕ) (f e : ℕ) → f ≤ length text → e ≤ length (drop f text) → 0 < tail_from radix f e → (radix ≡ Binary → e ≡ 0) → IsEnough radix (take f text) (take e (drop f text))
tail_enough Decimal text f e w v h b = elim (zero_or_more f) as (λ _. IsEnough Decimal (take f text) (take e (drop f text))) [
  | inl z ↦ inr (no_taken e (drop f text) (omega arith) v)
  | inr z ↦ inl (no_taken f text z w)
]
tail_enough Hexadecimal text f e w v h b = elim (zero_or_more e) as (λ _. IsEnough Hexadecimal (take f text) (take e (drop f text))) [
  | inl z ↦ absurd (no_tail f e z h)
  | inr z ↦ no_taken e (drop f text) z v
]
tail_enough Binary text f e w v h b = absurd (no_tail f e (b refl) h)

small_tail : (f e : ℕ) → 0 < (cond (eqb e 0) 0 (f + e)) → (cond (eqb e 0) 0 (f + e)) ≡ f + e
small_tail f e h = grind (arith, nat_tests)

tail_small : (radix : Radix) (f e : ℕ) → 0 < tail_from radix f e → tail_from radix f e ≡ f + e
tail_small Decimal f e h = refl
tail_small Hexadecimal f e h = small_tail f e h
tail_small Binary f e h = small_tail f e h

fraction_inside : (radix : Radix) (text : List ℕ) → fraction_len radix text ≤ length text
fraction_inside radix text = elim (zero_or_more (fraction_len radix text)) as (λ _. fraction_len radix text ≤ length text) [ inl z ↦ omega arith | inr z ↦ (fraction_sound radix text z).within ]

exponent_inside : (radix : Radix) (text : List ℕ) → exponent_len radix text ≤ length text
exponent_inside radix text = elim (zero_or_more (exponent_len radix text)) as (λ _. exponent_len radix text ≤ length text) [ inl z ↦ omega arith | inr z ↦ (exponent_sound radix text z).within ]

pub tail_sound : (radix : Radix) (text : List ℕ) → 0 < tail_len radix text → FoundBytes (IsFloatTail radix) text (tail_len radix text)
tail_sound radix text h =
    let f : ℕ = fraction_len radix text in
    let rest : List ℕ = drop f text in
    let e : ℕ = exponent_len radix rest in
    let p : tail_len radix text ≡ tail_from radix f e = tail_parts radix text f e refl refl in
    let k : 0 < tail_from radix f e = omega (arith, p) in
    let s = tail_small radix f e k in
    let w : f ≤ length text = fraction_inside radix text in
    let v : e ≤ length rest = exponent_inside radix rest in
    subst (FoundBytes (IsFloatTail radix) text) (sym (p ∙ s)) record {
      within = omega (arith, length-drop f text, v, w);
      is = record {
        fraction = take f text;
        exponent = take e rest;
        is = take_add f e text;
        first = elim (zero_or_more f) as (λ _. (take f text ≡ []) ⊎ IsFraction radix (take f text)) [ inl z ↦ inl (ap (λ n. take n text) z) | inr z ↦ inr (fraction_sound radix text z).is ];
        second = elim (zero_or_more e) as (λ _. (take e rest ≡ []) ⊎ IsExponent radix (take e rest)) [ inl z ↦ inl (ap (λ n. take n rest) z) | inr z ↦ inr (exponent_sound radix rest z).is ];
        enough = tail_enough radix text f e w v k (λ b. subst (λ r. exponent_len r rest ≡ 0) (sym b) (binary_no_exponent rest));
      };
    }

tail_big : (radix : Radix) (f e : ℕ) → 0 < e → tail_from radix f e ≡ f + e
tail_big Decimal f e h = refl
tail_big Hexadecimal f e h = rw (other_is e 0 (λ z. omega arith)) refl
tail_big Binary f e h = rw (other_is e 0 (λ z. omega arith)) refl

no_enough : (radix : Radix) (f x : List ℕ) → f ≡ [] → x ≡ [] → IsEnough radix f x → ⊥
no_enough Decimal f x p q (inl e) = e p
no_enough Decimal f x p q (inr e) = e q
no_enough Hexadecimal f x p q e = e q
no_enough Binary f x p q e = e

exponent_part : (radix : Radix) (x more : List ℕ) → IsExponent radix x → (fraction_len radix (x ++ more) ≡ 0) × (length x ≤ exponent_len radix (x ++ more)) × (0 < exponent_len radix (x ++ more))
exponent_part radix x more q =
    let m = exponent_most radix x more q in
    (subst (λ y. fraction_len radix (y ++ more) ≡ 0) (sym q.is) (fraction_none radix q.mark ((q.sign ++ q.digits) ++ more) (lead_no_point radix q.mark q.leads)), m, omega (arith, m, ap length q.is))

most_exponent : (radix : Radix) (x more : List ℕ) → IsExponent radix x → length x ≤ tail_len radix (x ++ more)
most_exponent radix x more q =
    let p = exponent_part radix x more q in
    let t = tail_parts radix (x ++ more) 0 (exponent_len radix (x ++ more)) p.0 refl in
    let b = tail_big radix 0 (exponent_len radix (x ++ more)) p.2 in
    omega (arith, t, b, p.1)

most_fraction : (f more : List ℕ) → IsFraction Decimal f → length f ≤ tail_len Decimal (f ++ more)
most_fraction f more p =
    let m = fraction_most Decimal f more p in
    let t = tail_parts Decimal (f ++ more) (fraction_len Decimal (f ++ more)) (exponent_len Decimal (drop (fraction_len Decimal (f ++ more)) (f ++ more))) refl refl in
    omega (arith, t, m)

most_both : (radix : Radix) (f x more : List ℕ) → IsFraction radix f → IsExponent radix x → length f + length x ≤ tail_len radix (f ++ (x ++ more))
most_both radix f x more p q =
    let e = exponent_part radix x more q in
    let F : fraction_len radix (f ++ (x ++ more)) ≡ length f = subst (λ y. fraction_len radix (f ++ (y ++ more)) ≡ length f) (sym q.is) (fraction_exact radix f q.mark ((q.sign ++ q.digits) ++ more) p (lead_digit radix q.mark q.leads)) in
    let X : exponent_len radix (drop (length f) (f ++ (x ++ more))) ≡ exponent_len radix (x ++ more) = ap (exponent_len radix) (drop_at f (x ++ more) (length f) refl) in
    let t = tail_parts radix (f ++ (x ++ more)) (length f) (exponent_len radix (x ++ more)) F X in
    let b = tail_big radix (length f) (exponent_len radix (x ++ more)) e.2 in
    omega (arith, t, b, e.1)

most_by : (radix : Radix) (f x more : List ℕ) → (f ≡ []) ⊎ IsFraction radix f → (x ≡ []) ⊎ IsExponent radix x → IsEnough radix f x → length f + length x ≤ tail_len radix (f ++ (x ++ more))
most_by radix f x more (inl a) (inl b) e = absurd (no_enough radix f x a b e)
most_by radix f x more (inl a) (inr q) e = subst (λ y. length y + length x ≤ tail_len radix (y ++ (x ++ more))) (sym a) (let m = most_exponent radix x more q in omega (arith, m))
most_by Decimal f x more (inr p) (inl b) e = subst (λ y. length f + length y ≤ tail_len Decimal (f ++ (y ++ more))) (sym b) (let m = most_fraction f more p in omega (arith, m))
most_by Hexadecimal f x more (inr p) (inl b) e = absurd (e b)
most_by Binary f x more (inr p) (inl b) e = absurd e
most_by radix f x more (inr p) (inr q) e = most_both radix f x more p q

pub tail_most : (radix : Radix) (bytes more : List ℕ) → IsFloatTail radix bytes → length bytes ≤ tail_len radix (bytes ++ more)
tail_most radix bytes more t =
    let m = most_by radix t.fraction t.exponent more t.first t.second t.enough in
    let a = append_assoc t.fraction t.exponent more in
    subst (λ y. length y ≤ tail_len radix (y ++ more)) (sym t.is) (rw a (omega (arith, m, length-append t.fraction t.exponent)))

-- how it begins
pub record TailBegins (radix : Radix) (bytes : List ℕ) : Type 0 where
  pub first : ℕ
  pub rest : List ℕ
  pub is : bytes ≡ first ∷ rest
  pub ends : EndsDigits radix first

begins_by : (radix : Radix) (f x : List ℕ) → (f ≡ []) ⊎ IsFraction radix f → (x ≡ []) ⊎ IsExponent radix x → IsEnough radix f x → TailBegins radix (f ++ x)
begins_by radix f x (inl a) (inl b) e = absurd (no_enough radix f x a b e)
begins_by radix f x (inl a) (inr q) e = record { first = q.mark; rest = q.sign ++ q.digits; is = ap (λ y. y ++ x) a ∙ q.is; ends = lead_ends radix q.mark q.leads }
begins_by radix f x (inr (digits, are, is)) s e = record { first = 46; rest = digits ++ x; is = ap (λ y. y ++ x) is; ends = point_ends radix }

pub tail_begins : (radix : Radix) (bytes : List ℕ) → IsFloatTail radix bytes → TailBegins radix bytes
tail_begins radix bytes t = subst (TailBegins radix) (sym t.is) (begins_by radix t.fraction t.exponent t.first t.second t.enough)

from_zero : (radix : Radix) → tail_from radix 0 0 ≡ 0
from_zero Decimal = refl
from_zero Hexadecimal = refl
from_zero Binary = refl

pub tail_star : (radix : Radix) (more : List ℕ) → tail_len radix (42 ∷ more) ≡ 0
tail_star radix more = tail_parts radix (42 ∷ more) 0 0 (fraction_none radix 42 more refl) (exponent_none radix 42 more (star_no_lead radix)) ∙ from_zero radix
