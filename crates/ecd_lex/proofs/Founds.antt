-- What is found at the front of a text is a lexeme.
use Rattle.std.proofs.Common.{◌≡◌, ◌≢◌, inl, inr, ℕ, ◌+◌, ◌≤◌, ◌<◌, suc, zero, Bool, true, false, not, ◌&&◌, List, [], ◌∷◌, ◌++◌, length, take, drop, get_or, refl, sym, ◌∙◌, ap, subst, arith, one-add, eqb, length-append, length-take, append_assoc, Option, Some, None, Result, Ok, Err}
use Rattle.std.specs.Prelude.{nat_lt}
use Rattle.std.specs.List.{prefix_len}
use Rattle.std.proofs.lemmas.Bool.Decides.{nat_tests}
use Rattle.std.proofs.lemmas.List.{take_at, take-append-drop}
use Rattle.ecd_lex.specs.declared.character.Radix.{Radix}
use Rattle.ecd_lex.specs.declared.character.Radix.TheVariants.{Decimal, Hexadecimal, Binary}
use Rattle.ecd_lex.specs.declared.token.Bound.{Bound}
use Rattle.ecd_lex.specs.declared.token.Bound.TheVariants.{Missing}
use Rattle.ecd_lex.specs.declared.token.TokenKind.{TokenKind}
use Rattle.ecd_lex.specs.declared.token.TokenKind.TheVariants as kinds
use Rattle.ecd_lex.specs.declared.number.Numeral.{Numeral}
use Rattle.ecd_lex.specs.declared.found.Found.{Found}
use Rattle.ecd_lex.specs.Characters.{is_decimal, is_digit, is_name_start, is_x, is_b, Each}
use Rattle.ecd_lex.specs.Forms.{IsMarked, IsUnsigned, IsFloatTail, IsBound, IsLexeme, minus, int_of, bound_of}
use Rattle.ecd_lex.specs.Faults.{EndsInNumber, is_no_star}
use Rattle.ecd_lex.specs.Scan.{name_rest, name_found, numeral_at, numeral_len, numeral_value, zero_numeral, tail_len, star_found, number_by, number_found, minus_len, Fault}
use Rattle.ecd_lex.proofs.Booleans.{tests, is_same}
use Rattle.ecd_lex.proofs.Runs.{run_exact}
use Rattle.ecd_lex.proofs.Names.{name_rest_sound, name_rest_within}
use Rattle.ecd_lex.proofs.Numerals.{FoundNumeral, numeral_sound, zero_kind, Zero, is_hexadecimal, is_binary, is_zero, numeral_zero, numeral_other, digits_all, decimal_digit}
use Rattle.ecd_lex.proofs.Tails.{tail_sound}

-- the number's place is known
abbrev pub NumberIs : TokenKind → List ℕ → Option ℕ → Type 0
NumberIs kind bytes number = (offset : ℕ) → (number ≡ Some offset → EndsInNumber kind bytes offset) × (EndsInNumber kind bytes offset → number ≡ Some offset)

pub record Sound (text : List ℕ) (found : Found) : Type 0 where
  pub within : found.end ≤ length text
  pub some : 0 < found.end
  pub lexeme : IsLexeme found.kind (take found.end text)
  pub number : NumberIs found.kind (take found.end text) found.number

-- by the lexeme's bytes and the rest
pub sound_of : (text bytes rest : List ℕ) (found : Found) → text ≡ bytes ++ rest → found.end ≡ length bytes → 0 < length bytes → IsLexeme found.kind bytes → NumberIs found.kind bytes found.number → Sound text found
sound_of text bytes rest found t e s l n =
    let q : take found.end text ≡ bytes = ap (take found.end) t ∙ take_at bytes rest found.end (sym e) in
    record {
      within = omega (arith, e, ap length t, length-append bytes rest);
      some = omega (arith, e, s);
      lexeme = subst (IsLexeme found.kind) (sym q) l;
      number = subst (λ b. NumberIs found.kind b found.number) (sym q) n;
    }

pub at_zero : (offset : ℕ) → (Some 0 ≡ Some offset → offset ≡ 0) × (offset ≡ 0 → Some 0 ≡ Some offset)
at_zero offset = (λ e. cc, λ e. ap Some (sym e))

pub at_none : (offset : ℕ) → (◌≡◌ {A = Option ℕ} None (Some offset) → ⊥) × (⊥ → ◌≡◌ {A = Option ℕ} None (Some offset))
at_none offset = (λ e. cc, λ e. absurd e)

some_one : (n : ℕ) (x y : Found) → Some x ≡ Some y → x ≡ y
some_one n x y e = cc

pub ok_one : (x y : Found) → ◌≡◌ {A = Result Found Fault} (Ok x) (Ok y) → x ≡ y
ok_one x y e = cc

pub no_ok : (A : Type 0) (f : Fault) (y : Found) → ◌≡◌ {A = Result Found Fault} (Err f) (Ok y) → A
no_ok A f y e = cc

-- ---- names

pub name_sound : (c : ℕ) (text : List ℕ) → is_name_start c ≡ true → Sound (c ∷ text) (name_found (c ∷ text))
unfolding name_found IsLexeme
name_sound c text e =
    let w = name_rest_within text in
    sound_of (c ∷ text) (c ∷ take (name_rest text) text) (drop (name_rest text) text) (record { end = 1 + name_rest text; kind = kinds.Name (take (1 + name_rest text) (c ∷ text)); number = None })
    (ap (λ x. c ∷ x) (sym (take-append-drop (name_rest text) text)))
    (omega (arith, length-take (name_rest text) text))
    (omega arith)
    ((e, name_rest_sound text), rw one-add refl)
    at_none

-- ---- occurrences

-- a marked number has no star
digit_no_star : (radix : Radix) (c : ℕ) → is_digit radix c ≡ true → is_no_star c ≡ true
unfolding is_digit is_decimal
digit_no_star Decimal c e = grind (arith, nat_tests)
digit_no_star Hexadecimal c e = grind (arith, nat_tests)
digit_no_star Binary c e = grind (arith, nat_tests)

x_no_star : (c : ℕ) → is_x c ≡ true → is_no_star c ≡ true
unfolding is_x
x_no_star c e = grind (arith, nat_tests)

b_no_star : (c : ℕ) → is_b c ≡ true → is_no_star c ≡ true
unfolding is_b
b_no_star c e = grind (arith, nat_tests)

digits_no_star : (radix : Radix) (digits : List ℕ) → Each (is_digit radix) digits → Each is_no_star digits
digits_no_star radix [] e = tt
digits_no_star radix (c ∷ digits) e = (digit_no_star radix c e.0, digits_no_star radix digits e.1)

marked_no_star : (radix : Radix) (digits bytes : List ℕ) → Each (is_digit radix) digits → IsMarked radix digits bytes → Each is_no_star bytes
marked_no_star Decimal digits bytes e m = subst (Each is_no_star) (sym m) (digits_no_star Decimal digits e)
marked_no_star Hexadecimal digits bytes e (x, k, m) = subst (Each is_no_star) (sym m) (refl, (x_no_star x k, digits_no_star Hexadecimal digits e))
marked_no_star Binary digits bytes e (b, k, m) = subst (Each is_no_star) (sym m) (refl, (b_no_star b k, digits_no_star Binary digits e))

pub unsigned_no_star : (bytes : List ℕ) (n : ℕ) → IsUnsigned bytes n → Each is_no_star bytes
unsigned_no_star bytes n u = marked_no_star u.radix u.digits bytes u.are.1 u.marked

pub star_place : (before behind : List ℕ) → Each is_no_star before → prefix_len is_no_star (before ++ 42 ∷ behind) ≡ length before
star_place before behind e = run_exact is_no_star before 42 behind e refl

-- a star behind its number, of which nothing or a number follows
star_number : (before behind : List ℕ) (lo hi : Bound) (k : ℕ) → k ≡ length before → Each is_no_star before → 0 < length behind → NumberIs (kinds.Occur lo hi) (before ++ 42 ∷ behind) (Some (k + 1))
star_number before behind lo hi k e each h offset =
    let p = star_place before behind each in
    let l = length-append before (42 ∷ behind) in (
      λ q. (let o : offset ≡ k + 1 = cc in (omega (arith, o, p, e), omega (arith, o, l, e, h))),
      λ q. ap Some (omega (arith, q.0, p, e)),
    )

star_no_number : (before : List ℕ) (lo hi : Bound) → Each is_no_star before → NumberIs (kinds.Occur lo hi) (before ++ 42 ∷ []) None
star_no_number before lo hi each offset =
    let p = star_place before [] each in
    let l = length-append before (42 ∷ []) in
    (λ q. cc, λ q. absurd (omega (arith, q.0, q.1, p, l)))

pub true_lt : (n : ℕ) → nat_lt 0 n ≡ true → 0 < n
true_lt n h = grind (arith, nat_tests)

marked_some : (radix : Radix) (digits bytes : List ℕ) → digits ≢ [] → IsMarked radix digits bytes → 0 < length bytes
marked_some Decimal digits [] e m = absurd (e (sym m))
marked_some Decimal digits (c ∷ bytes) e m = omega arith
marked_some Hexadecimal digits bytes e (x, k, m) = omega (arith, ap length m)
marked_some Binary digits bytes e (x, k, m) = omega (arith, ap length m)

unsigned_some : (bytes : List ℕ) (n : ℕ) → IsUnsigned bytes n → 0 < length bytes
unsigned_some bytes n u = marked_some u.radix u.digits bytes u.are.0 u.marked

pub star_yes : (lo : Bound) (k : ℕ) (text : List ℕ) → nat_lt 0 (numeral_at text).digits ≡ true →
    star_found lo k text ≡ record { end = k + 1 + numeral_len (numeral_at text); kind = kinds.Occur lo (bound_of (numeral_value (numeral_at text) text)); number = Some (k + 1) }
unfolding star_found
star_yes lo k text e = rw e refl

pub star_no : (lo : Bound) (k : ℕ) (text : List ℕ) → nat_lt 0 (numeral_at text).digits ≡ false → star_found lo k text ≡ record { end = k + 1; kind = kinds.Occur lo Missing; number = None }
unfolding star_found
star_no lo k text e = rw e refl

pub star_sound : (before text : List ℕ) (lo : Bound) (k : ℕ) → k ≡ length before → IsBound before lo → Each is_no_star before → Sound (before ++ 42 ∷ text) (star_found lo k text)
unfolding IsLexeme
star_sound before text lo k e low each = elim (tests (nat_lt 0 (numeral_at text).digits)) as (λ _. Sound (before ++ 42 ∷ text) (star_found lo k text)) [
  | inl h ↦ (let f = numeral_sound text (true_lt (numeral_at text).digits h) in
      let n : ℕ = numeral_len (numeral_at text) in
      let t : List ℕ = take n text in
      let l = length-take n text in
      let w = f.within in
      let z = unsigned_some t (numeral_value (numeral_at text) text) f.unsigned in
      subst (Sound (before ++ 42 ∷ text)) (sym (star_yes lo k text h))
      (sound_of (before ++ 42 ∷ text) (before ++ 42 ∷ t) (drop n text) (record { end = k + 1 + n; kind = kinds.Occur lo (bound_of (numeral_value (numeral_at text) text)); number = Some (k + 1) })
      (ap (λ x. before ++ 42 ∷ x) (sym (take-append-drop n text)) ∙ sym (append_assoc before (42 ∷ t) (drop n text)))
      (omega (arith, e, l, w, length-append before (42 ∷ t)))
      (omega (arith, length-append before (42 ∷ t)))
      (inr (inr record { before = before; behind = t; is = refl; low = low; high = inr (numeral_value (numeral_at text) text, f.unsigned, refl) }))
      (star_number before t lo (bound_of (numeral_value (numeral_at text) text)) k e each z)))
  | inr h ↦ subst (Sound (before ++ 42 ∷ text)) (sym (star_no lo k text h))
      (sound_of (before ++ 42 ∷ text) (before ++ 42 ∷ []) text (record { end = k + 1; kind = kinds.Occur lo Missing; number = None })
      (sym (append_assoc before (42 ∷ []) text))
      (omega (arith, e, length-append before (42 ∷ [])))
      (omega (arith, length-append before (42 ∷ [])))
      (inr (inr record { before = before; behind = []; is = refl; low = low; high = inl (refl, refl) }))
      (star_no_number before lo Missing each))
]

-- ---- numbers

zero_some : (text : List ℕ) (n : Numeral) → Zero text n → 0 < n.digits
zero_some text n (is_hexadecimal x more t e h q) = subst (λ m. 0 < m.digits) (sym q) h
zero_some text n (is_binary b more t e h q) = subst (λ m. 0 < m.digits) (sym q) h
zero_some text n (is_zero q) = subst (λ m. 0 < m.digits) (sym q) (omega arith)

pub numeral_some : (c : ℕ) (text : List ℕ) → is_decimal c ≡ true → 0 < (numeral_at (c ∷ text)).digits
numeral_some c text e = elim (tests (eqb c 48)) as (λ _. 0 < (numeral_at (c ∷ text)).digits) [
  | inl k ↦ subst (λ n. 0 < n.digits) (sym (numeral_zero c text k)) (zero_some text (zero_numeral text) (zero_kind text))
  | inr k ↦ subst (λ n. 0 < n.digits) (sym (numeral_other c text k)) (let a = digits_all Decimal (c ∷ []) text (decimal_digit c ∙ e, tt) in omega (arith, a))
]

pub float_yes : (negative : Bool) (n : Numeral) (number : List ℕ) → nat_lt 0 (tail_len n.radix (drop (numeral_len n) number)) ≡ true →
    number_by negative n number ≡ record { end = minus_len negative + numeral_len n + tail_len n.radix (drop (numeral_len n) number); kind = kinds.Float; number = Some 0 }
unfolding number_by
float_yes negative n number e = rw e refl

pub occur_yes : (negative : Bool) (n : Numeral) (number : List ℕ) → nat_lt 0 (tail_len n.radix (drop (numeral_len n) number)) ≡ false → (not negative && eqb (get_or number (numeral_len n) 0) 42) ≡ true →
    number_by negative n number ≡ star_found (bound_of (numeral_value n number)) (numeral_len n) (drop (numeral_len n + 1) number)
unfolding number_by
occur_yes negative n number e f = rw (e, f) refl

pub int_yes : (negative : Bool) (n : Numeral) (number : List ℕ) → nat_lt 0 (tail_len n.radix (drop (numeral_len n) number)) ≡ false → (not negative && eqb (get_or number (numeral_len n) 0) 42) ≡ false →
    number_by negative n number ≡ record { end = minus_len negative + numeral_len n; kind = kinds.Int (int_of negative (numeral_value n number)); number = Some 0 }
unfolding number_by
int_yes negative n number e f = rw (e, f) refl

pub minus_length : (negative : Bool) → length (minus negative) ≡ minus_len negative
minus_length true = refl
minus_length false = refl

float_sound : (negative : Bool) (number : List ℕ) (n : Numeral) → FoundNumeral number n → nat_lt 0 (tail_len n.radix (drop (numeral_len n) number)) ≡ true → Sound (minus negative ++ number) (number_by negative n number)
unfolding IsLexeme
float_sound negative number n f h =
    let len : ℕ = numeral_len n in
    let rest : List ℕ = drop len number in
    let tail : ℕ = tail_len n.radix rest in
    let s = tail_sound n.radix rest (true_lt tail h) in
    let bytes : List ℕ = minus negative ++ (take len number ++ take tail rest) in
    let w = f.within in
    let v = s.within in
    let size : length bytes ≡ minus_len negative + len + tail = omega (arith, length-append (minus negative) (take len number ++ take tail rest), length-append (take len number) (take tail rest), length-take len number, length-take tail rest, minus_length negative) in
    subst (Sound (minus negative ++ number)) (sym (float_yes negative n number h))
    (sound_of (minus negative ++ number) bytes (drop tail rest) (record { end = minus_len negative + len + tail; kind = kinds.Float; number = Some 0 })
    (ap (λ x. minus negative ++ x) (sym (take-append-drop len number) ∙ (ap (λ x. take len number ++ x) (sym (take-append-drop tail rest)) ∙ sym (append_assoc (take len number) (take tail rest) (drop tail rest)))) ∙ sym (append_assoc (minus negative) (take len number ++ take tail rest) (drop tail rest)))
    (sym size)
    (omega (arith, size, true_lt tail h))
    (record {
      negative = negative;
      radix = f.unsigned.radix;
      digits = f.unsigned.digits;
      number = take len number;
      tail = take tail rest;
      are = f.unsigned.are;
      marked = f.unsigned.marked;
      goes_on = subst (λ r. IsFloatTail r (take tail rest)) (sym f.radix) s.is;
      is = refl;
    })
    at_zero)

pub and_true : (a b : Bool) → (a && b) ≡ true → (a ≡ true) × (b ≡ true)
and_true true true e = (refl, refl)
and_true true false e = cc
and_true false b e = cc

pub split_at : (n c : ℕ) (text : List ℕ) → get_or text n 0 ≡ suc c → text ≡ take n text ++ suc c ∷ drop (n + 1) text
split_at n c [] e = absurd (omega (arith, e))
split_at zero c (d ∷ text) e = ap (λ x. x ∷ text) e
split_at (suc n) c (d ∷ text) e = let k : suc n + 1 ≡ suc (n + 1) = omega arith in rw k (ap (λ x. d ∷ x) (split_at n c text e))

number_occur : (negative : Bool) (number : List ℕ) (n : Numeral) → FoundNumeral number n → nat_lt 0 (tail_len n.radix (drop (numeral_len n) number)) ≡ false →
    (not negative && eqb (get_or number (numeral_len n) 0) 42) ≡ true → Sound (minus negative ++ number) (number_by negative n number)
number_occur true number n f h k = cc
number_occur false number n f h k =
    let len : ℕ = numeral_len n in
    let w = f.within in
    let c : number ≡ take len number ++ 42 ∷ drop (len + 1) number = split_at len 41 number (is_same (get_or number len 0) 42 k) in
    subst (Sound number) (sym (occur_yes false n number h k))
    (subst (λ x. Sound x (star_found (bound_of (numeral_value n number)) len (drop (len + 1) number))) (sym c)
    (star_sound (take len number) (drop (len + 1) number) (bound_of (numeral_value n number)) len (omega (arith, length-take len number)) (inr (numeral_value n number, f.unsigned, refl)) (unsigned_no_star (take len number) (numeral_value n number) f.unsigned)))

int_sound : (negative : Bool) (number : List ℕ) (n : Numeral) → FoundNumeral number n → 0 < numeral_len n → nat_lt 0 (tail_len n.radix (drop (numeral_len n) number)) ≡ false →
    (not negative && eqb (get_or number (numeral_len n) 0) 42) ≡ false → Sound (minus negative ++ number) (number_by negative n number)
unfolding IsLexeme
int_sound negative number n f z h k =
    let len : ℕ = numeral_len n in
    let w = f.within in
    let size : length (minus negative ++ take len number) ≡ minus_len negative + len = omega (arith, length-append (minus negative) (take len number), length-take len number, minus_length negative) in
    subst (Sound (minus negative ++ number)) (sym (int_yes negative n number h k))
    (sound_of (minus negative ++ number) (minus negative ++ take len number) (drop len number) (record { end = minus_len negative + len; kind = kinds.Int (int_of negative (numeral_value n number)); number = Some 0 })
    (ap (λ x. minus negative ++ x) (sym (take-append-drop len number)) ∙ sym (append_assoc (minus negative) (take len number) (drop len number)))
    (sym size)
    (omega (arith, size, z))
    (record { negative = negative; number = take len number; magnitude = numeral_value n number; is = refl; unsigned = f.unsigned; counts = refl })
    at_zero)

pub number_sound : (negative : Bool) (number : List ℕ) → 0 < (numeral_at number).digits → Sound (minus negative ++ number) (number_found negative number)
unfolding number_found
number_sound negative number s =
    let n : Numeral = numeral_at number in
    let f = numeral_sound number s in
    elim (tests (nat_lt 0 (tail_len n.radix (drop (numeral_len n) number)))) as (λ _. Sound (minus negative ++ number) (number_by negative n number)) [
      | inl h ↦ float_sound negative number n f h
      | inr h ↦ elim (tests (not negative && eqb (get_or number (numeral_len n) 0) 42)) as (λ _. Sound (minus negative ++ number) (number_by negative n number)) [
        | inl k ↦ number_occur negative number n f h k
        | inr k ↦ int_sound negative number n f (omega arith) h k
      ]
    ]
