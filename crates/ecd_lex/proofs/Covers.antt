-- Each lexeme at the front of a text is found, or a longer one, or a fault that is no bad byte.
use Rattle.std.proofs.Common.{◌≡◌, ◌≢◌, ◌⊎◌, inl, inr, ℕ, ◌+◌, ◌≤◌, ◌<◌, suc, Bool, true, false, not, ◌&&◌, List, [], ◌∷◌, ◌++◌, length, take, drop, get_or, refl, sym, ◌∙◌, ap, subst, arith, eqb, length-append, append_assoc, Option, None, Result, Ok, Err, ℤ}
use Rattle.std.specs.Prelude.{IsTrue, nat_lt}
use Rattle.std.proofs.lemmas.Bool.Decides.{nat_tests}
use Rattle.std.proofs.lemmas.List.{take_at, drop_at, drop-drop, get_or_at}
use Rattle.ecd_lex.specs.declared.character.Radix.{Radix}
use Rattle.ecd_lex.specs.declared.character.Radix.TheVariants.{Decimal, Hexadecimal, Binary}
use Rattle.ecd_lex.specs.declared.token.Bound.{Bound}
use Rattle.ecd_lex.specs.declared.token.Bound.TheVariants.{Missing, Is}
use Rattle.ecd_lex.specs.declared.token.TokenKind.{TokenKind}
use Rattle.ecd_lex.specs.declared.token.TokenKind.TheVariants as kinds
use Rattle.ecd_lex.specs.declared.number.Numeral.{Numeral}
use Rattle.ecd_lex.specs.declared.found.Found.{Found}
use Rattle.ecd_lex.specs.declared.front.Opening.{Opening}
use Rattle.ecd_lex.specs.declared.front.Opening.TheVariants as opens
use Rattle.ecd_lex.specs.Characters.{number_of, is_decimal, is_digit, is_name_start, is_name_byte, is_link, is_letter, Each}
use Rattle.ecd_lex.specs.Forms.{IsNameRest, LeadsWithZero, AreDigits, IsMarked, IsUnsigned, IsInteger, IsFloat, IsFloatTail, IsBound, IsOccur, IsName, minus, int_of, bound_of}
use Rattle.ecd_lex.specs.Scan.{name_found, numeral_at, numeral_len, numeral_value, tail_len, star_found, number_by, number_found, minus_len, hex_quoted, string_found, leads_with_zero, signed_found, minus_found, occurrence, letter_found, opening_of, opening_of_mark, found_by, candidate, Fault}
use Rattle.ecd_lex.proofs.Booleans.{tests}
use Rattle.ecd_lex.proofs.Names.{name_rest_most}
use Rattle.ecd_lex.proofs.Numerals.{CoversNumeral, numeral_most, numeral_exact, exactly, marked_len, marked_value, decimal_digit}
use Rattle.ecd_lex.proofs.Tails.{tail_most, tail_begins, tail_star, star_ends}
use Rattle.ecd_lex.proofs.Founds.{float_yes, occur_yes, int_yes, minus_length, star_yes, star_no}
use Rattle.ecd_lex.proofs.Candidates.{HexOutcome, hex_unclosed, hex_spelled, hex_bad, hex_outcome, Letter, hexadecimal, base64, word, letter_kind}

-- a kind that may end in a number
abbrev pub MayEndInNumber : TokenKind → Type 0
MayEndInNumber (kinds.Int value) = Unit {0}
MayEndInNumber kinds.Float = Unit {0}
MayEndInNumber (kinds.Hash major arg) = Unit {0}
MayEndInNumber (kinds.Occur lo hi) = Unit {0}
MayEndInNumber (kinds.Name name) = ⊥
MayEndInNumber (kinds.Text chars) = ⊥
MayEndInNumber (kinds.Bytes spelled) = ⊥
MayEndInNumber (kinds.Control name) = ⊥
MayEndInNumber (kinds.Sign sign) = ⊥

abbrev pub Covered : TokenKind → List ℕ → Result Found Fault → Type 0
Covered kind bytes (Ok found) = (length bytes ≤ found.end) × (length bytes ≡ found.end → kind ≡ found.kind)
Covered kind bytes (Err fault) = (2 ≤ fault.1) × (MayEndInNumber kind → fault ≡ (0, 4))

pub covered_same : (kind : TokenKind) (bytes : List ℕ) (x y : Result Found Fault) → x ≡ y → Covered kind bytes y → Covered kind bytes x
covered_same kind bytes x y e c = subst (Covered kind bytes) (sym e) c

pub candidate_at : (c : ℕ) (text : List ℕ) (o : Opening) → opening_of c ≡ o → candidate (c ∷ text) ≡ found_by o (c ∷ text)
unfolding candidate
candidate_at c text o e = ap (λ o'. found_by o' (c ∷ text)) e

pub letter_opens : (c : ℕ) → is_name_start c ≡ true → opening_of c ≡ opens.Letter
unfolding opening_of
letter_opens c e = rw e refl

no_start : (c : ℕ) → is_decimal c ≡ true → is_name_start c ≡ false
unfolding is_decimal is_name_start is_letter
no_start c e = grind (arith, nat_tests)

pub digit_opens : (c : ℕ) → is_decimal c ≡ true → opening_of c ≡ opens.Digit
unfolding opening_of
digit_opens c e = rw (no_start c e, e) refl

pub lt_true : (n : ℕ) → 0 < n → nat_lt 0 n ≡ true
lt_true n h = grind (arith, nat_tests)

-- ---- names

quote_no_name : is_name_byte 39 ≡ false
unfolding is_name_byte is_name_start is_letter is_decimal
quote_no_name = refl

quote_no_link : is_link 39 ≡ false
unfolding is_link
quote_no_link = refl

differ : (b : Bool) → b ≡ true → b ≡ false → ⊥
differ b e f = cc

no_quote : (bytes more rest : List ℕ) → IsNameRest bytes → bytes ++ more ≡ 39 ∷ rest → length bytes ≡ 0
no_quote [] more rest n e = refl
no_quote (d ∷ bytes) more rest n e = let q : d ≡ 39 = ap (λ x. get_or x 0 0) e in absurd (quote_in d q n.0)
  where
    quote_in : (x : ℕ) → x ≡ 39 → (IsTrue (is_name_byte x)) ⊎ (IsTrue (is_link x) × (bytes ≢ [])) → ⊥
    quote_in x q (inl h) = differ (is_name_byte x) h (ap is_name_byte q ∙ quote_no_name)
    quote_in x q (inr h) = differ (is_link x) h.0 (ap is_link q ∙ quote_no_link)

cover_hex_any : (spelled bytes rest : List ℕ) (read : Result (ℕ × List ℕ) Fault) → length bytes ≤ 2 → HexOutcome rest read → Covered (kinds.Name spelled) bytes (string_found kinds.Bytes read)
cover_hex_any spelled bytes rest read h (hex_unclosed e r) = covered_same (kinds.Name spelled) bytes (string_found kinds.Bytes read) (Err (1, 2)) (ap (string_found kinds.Bytes) r) (omega arith, λ n. absurd n)
cover_hex_any spelled bytes rest read h (hex_spelled n k made d r) = covered_same (kinds.Name spelled) bytes (string_found kinds.Bytes read) (Ok (record { end = n + 3; kind = kinds.Bytes made; number = None })) (ap (string_found kinds.Bytes) r) (omega (arith, h), λ e. absurd (omega (arith, h, e)))
cover_hex_any spelled bytes rest read h (hex_bad n k offset d r) = covered_same (kinds.Name spelled) bytes (string_found kinds.Bytes read) (Err (2 + offset, 5)) (ap (string_found kinds.Bytes) r) (omega arith, λ n. absurd n)

name_covered : (c : ℕ) (b more : List ℕ) → IsNameRest b → Covered (kinds.Name (c ∷ b)) (c ∷ b) (Ok (name_found (c ∷ (b ++ more))))
unfolding name_found
name_covered c b more n =
    let m = name_rest_most b more n in
    (omega (arith, m), λ e. ap kinds.Name (sym (ap (λ k. take k (c ∷ (b ++ more))) (sym e) ∙ take_at (c ∷ b) more (suc (length b)) refl)))

letter_covered : (c : ℕ) (b more : List ℕ) (read : Result Found Fault) → IsNameRest b → Letter c (b ++ more) read → Covered (kinds.Name (c ∷ b)) (c ∷ b) read
letter_covered c b more read n (hexadecimal rest t h r) = covered_same (kinds.Name (c ∷ b)) (c ∷ b) read (string_found kinds.Bytes (hex_quoted rest)) r (cover_hex_any (c ∷ b) (c ∷ b) rest (hex_quoted rest) (omega (arith, no_quote b more rest n t)) (hex_outcome rest))
letter_covered c b more read n (base64 rest t h r) = covered_same (kinds.Name (c ∷ b)) (c ∷ b) read (Err (0, 6)) r (omega arith, λ n. absurd n)
letter_covered c b more read n (word k r) = covered_same (kinds.Name (c ∷ b)) (c ∷ b) read (Ok (name_found (c ∷ (b ++ more)))) r (name_covered c b more n)

pub cover_name : (name : List ℕ) (more : List ℕ) → IsName name → Covered (kinds.Name name) name (candidate (name ++ more))
cover_name [] more n = absurd n
cover_name (c ∷ b) more n = covered_same (kinds.Name (c ∷ b)) (c ∷ b) (candidate (c ∷ (b ++ more))) (letter_found (c ∷ (b ++ more))) (candidate_at c (b ++ more) opens.Letter (letter_opens c n.0)) (letter_covered c b more (letter_found (c ∷ (b ++ more))) n.1 (letter_kind c (b ++ more)))

-- ---- numbers

zero_decimal : (c : ℕ) → c ≡ 48 → is_decimal c ≡ true
unfolding is_decimal
zero_decimal c e = grind (arith, nat_tests)

marked_first : (radix : Radix) (digits : List ℕ) (c : ℕ) (b : List ℕ) → Each (is_digit radix) digits → IsMarked radix digits (c ∷ b) → is_decimal c ≡ true
marked_first Decimal [] c b each m = cc
marked_first Decimal (d ∷ digits) c b each m = let q : c ≡ d = ap (λ x. get_or x 0 0) m in ap is_decimal q ∙ (sym (decimal_digit d) ∙ each.0)
marked_first Hexadecimal digits c b each (x, k, m) = zero_decimal c (ap (λ y. get_or y 0 0) m)
marked_first Binary digits c b each (x, k, m) = zero_decimal c (ap (λ y. get_or y 0 0) m)

signed_covered : (kind : TokenKind) (bytes : List ℕ) (negative : Bool) (number : List ℕ) → (leads_with_zero number ≡ false → Covered kind bytes (Ok (number_found negative number))) → Covered kind bytes (signed_found negative number)
unfolding signed_found
signed_covered kind bytes negative number f = elim (tests (leads_with_zero number)) as (λ _. Covered kind bytes (signed_found negative number)) [
  | inl e ↦ rw e (omega arith, λ n. refl)
  | inr e ↦ rw e (f e)
]

pub minus_opens : opening_of 45 ≡ opens.Minus
unfolding opening_of is_name_start is_letter is_decimal
minus_opens = refl

pub minus_is : (c : ℕ) (b : List ℕ) → is_decimal c ≡ true → minus_found (45 ∷ c ∷ b) ≡ signed_found true (c ∷ b)
unfolding minus_found
minus_is c b d = rw d refl

pub signed_candidate : (kind : TokenKind) (bytes : List ℕ) (negative : Bool) (c : ℕ) (b : List ℕ) → is_decimal c ≡ true → Covered kind bytes (signed_found negative (c ∷ b)) → Covered kind bytes (candidate (minus negative ++ c ∷ b))
signed_candidate kind bytes false c b d k = covered_same kind bytes (candidate (c ∷ b)) (signed_found false (c ∷ b)) (candidate_at c b opens.Digit (digit_opens c d)) k
signed_candidate kind bytes true c b d k = covered_same kind bytes (candidate (45 ∷ c ∷ b)) (signed_found true (c ∷ b)) (candidate_at 45 (c ∷ b) opens.Minus minus_opens ∙ minus_is c b d) k

star_end : (lo : Bound) (k : ℕ) (text : List ℕ) → k + 1 ≤ (star_found lo k text).end
star_end lo k text = elim (tests (nat_lt 0 (numeral_at text).digits)) as (λ _. k + 1 ≤ (star_found lo k text).end) [
  | inl h ↦ subst (λ f. k + 1 ≤ f.end) (sym (star_yes lo k text h)) (omega arith)
  | inr h ↦ subst (λ f. k + 1 ≤ f.end) (sym (star_no lo k text h)) (omega arith)
]

no_minus : (negative : Bool) (b : Bool) → (not negative && b) ≡ true → minus_len negative ≡ 0
no_minus true b e = cc
no_minus false b e = refl

pub true_lt : (n : ℕ) → nat_lt 0 n ≡ true → 0 < n
true_lt n h = grind (arith, nat_tests)

int_covered : (negative : Bool) (number text : List ℕ) (magnitude : ℕ) (n : Numeral) → CoversNumeral text number magnitude n →
    Covered (kinds.Int (int_of negative magnitude)) (minus negative ++ number) (Ok (number_by negative n text))
int_covered negative number text magnitude n m =
    let kind : TokenKind = kinds.Int (int_of negative magnitude) in
    let bytes : List ℕ = minus negative ++ number in
    let size = length-append (minus negative) number in
    let l = minus_length negative in
    let longer = m.longer in
    let tail : ℕ = tail_len n.radix (drop (numeral_len n) text) in
    elim (tests (nat_lt 0 tail)) as (λ _. Covered kind bytes (Ok (number_by negative n text))) [
      | inl h ↦ subst (λ f. Covered kind bytes (Ok f)) (sym (float_yes negative n text h)) (omega (arith, size, l, longer), λ e. absurd (omega (arith, size, l, longer, e, true_lt tail h)))
      | inr h ↦ elim (tests (not negative && eqb (get_or text (numeral_len n) 0) 42)) as (λ _. Covered kind bytes (Ok (number_by negative n text))) [
        | inl k ↦ (let s = star_end (bound_of (numeral_value n text)) (numeral_len n) (drop (numeral_len n + 1) text) in let z = no_minus negative (eqb (get_or text (numeral_len n) 0) 42) k in
            subst (λ f. Covered kind bytes (Ok f)) (sym (occur_yes negative n text h k)) (omega (arith, size, l, longer, s, z), λ e. absurd (omega (arith, size, l, longer, s, z, e))))
        | inr k ↦ subst (λ f. Covered kind bytes (Ok f)) (sym (int_yes negative n text h k)) (omega (arith, size, l, longer), λ e. ap (λ v. kinds.Int (int_of negative v)) (sym (m.same (omega (arith, size, l, e)))))
      ]
    ]

no_marked : (radix : Radix) (digits : List ℕ) → digits ≢ [] → IsMarked radix digits [] → ⊥
no_marked Decimal digits e m = e (sym m)
no_marked Hexadecimal digits e (x, k, m) = cc
no_marked Binary digits e (x, k, m) = cc

no_unsigned : (n : ℕ) → IsUnsigned [] n → ⊥
no_unsigned n u = no_marked u.radix u.digits u.are.0 u.marked

int_found : (negative : Bool) (number text : List ℕ) (magnitude : ℕ) → CoversNumeral text number magnitude (numeral_at text) → Covered (kinds.Int (int_of negative magnitude)) (minus negative ++ number) (Ok (number_found negative text))
unfolding number_found
int_found negative number text magnitude m = int_covered negative number text magnitude (numeral_at text) m

cover_int_by : (negative : Bool) (number more : List ℕ) (magnitude : ℕ) → IsUnsigned number magnitude → Covered (kinds.Int (int_of negative magnitude)) (minus negative ++ number) (candidate (minus negative ++ (number ++ more)))
cover_int_by negative [] more magnitude u = absurd (no_unsigned magnitude u)
cover_int_by negative (c ∷ b) more magnitude u =
    signed_candidate (kinds.Int (int_of negative magnitude)) (minus negative ++ c ∷ b) negative c (b ++ more) (marked_first u.radix u.digits c b u.are.1 u.marked)
    (signed_covered (kinds.Int (int_of negative magnitude)) (minus negative ++ c ∷ b) negative (c ∷ (b ++ more)) (λ _. int_found negative (c ∷ b) (c ∷ (b ++ more)) magnitude (numeral_most (c ∷ b) more magnitude u)))

pub cover_int : (bytes more : List ℕ) (value : Option ℤ) → IsInteger bytes value → Covered (kinds.Int value) bytes (candidate (bytes ++ more))
cover_int bytes more value i =
    subst (λ b. Covered (kinds.Int value) b (candidate (b ++ more))) (sym i.is)
    (subst (λ v. Covered (kinds.Int v) (minus i.negative ++ i.number) (candidate ((minus i.negative ++ i.number) ++ more))) (sym i.counts)
    (subst (λ t. Covered (kinds.Int (int_of i.negative i.magnitude)) (minus i.negative ++ i.number) (candidate t)) (sym (append_assoc (minus i.negative) i.number more)) (cover_int_by i.negative i.number more i.magnitude i.unsigned)))

-- ---- floats

zero_test : (c : ℕ) → c ≡ 48 → eqb c 48 ≡ true
zero_test c e = grind (arith, nat_tests)

pub leads_is : (number more : List ℕ) → LeadsWithZero number → leads_with_zero (number ++ more) ≡ true
unfolding leads_with_zero
leads_is [] more h = absurd h
leads_is (c ∷ []) more h = absurd h
leads_is (c ∷ d ∷ number) more h = rw (zero_test c h.0, h.1) refl

float_covered : (negative : Bool) (radix : Radix) (digits number tail more : List ℕ) → AreDigits radix digits → IsMarked radix digits number → IsFloatTail radix tail → ¬ LeadsWithZero number →
    Covered kinds.Float (minus negative ++ (number ++ tail)) (Ok (number_found negative (number ++ (tail ++ more))))
unfolding number_found
float_covered negative radix digits number tail more are m t short =
    let begins = tail_begins radix tail t in
    let text : List ℕ = number ++ (tail ++ more) in
    let exact : numeral_at text ≡ exactly radix (length digits) =
    ap (λ x. numeral_at (number ++ (x ++ more))) begins.is ∙ numeral_exact radix digits number begins.first (begins.rest ++ more) are m short begins.ends in
    let len : length number ≡ numeral_len (exactly radix (length digits)) = marked_len radix digits number m in
    let rest : drop (numeral_len (exactly radix (length digits))) text ≡ tail ++ more = drop_at number (tail ++ more) (numeral_len (exactly radix (length digits))) len in
    let most = tail_most radix tail more t in
    let some : 0 < length tail = omega (arith, ap length begins.is) in
    let h : nat_lt 0 (tail_len radix (drop (numeral_len (exactly radix (length digits))) text)) ≡ true = rw rest (lt_true (tail_len radix (tail ++ more)) (omega (arith, most, some))) in
    let q = ap (tail_len radix) rest in
    subst (λ n. Covered kinds.Float (minus negative ++ (number ++ tail)) (Ok (number_by negative n text))) (sym exact)
    (subst (λ f. Covered kinds.Float (minus negative ++ (number ++ tail)) (Ok f)) (sym (float_yes negative (exactly radix (length digits)) text h))
    (omega (arith, length-append (minus negative) (number ++ tail), length-append number tail, minus_length negative, len, most, q), λ e. refl))

cover_float_by : (negative : Bool) (radix : Radix) (digits number tail more : List ℕ) → AreDigits radix digits → IsMarked radix digits number → IsFloatTail radix tail →
    Covered kinds.Float (minus negative ++ (number ++ tail)) (candidate (minus negative ++ (number ++ (tail ++ more))))
cover_float_by negative radix digits [] tail more are m t = absurd (no_marked radix digits are.0 m)
cover_float_by negative radix digits (c ∷ b) tail more are m t =
    signed_candidate kinds.Float (minus negative ++ ((c ∷ b) ++ tail)) negative c (b ++ (tail ++ more)) (marked_first radix digits c b are.1 m)
    (signed_covered kinds.Float (minus negative ++ ((c ∷ b) ++ tail)) negative (c ∷ (b ++ (tail ++ more))) (λ z. float_covered negative radix digits (c ∷ b) tail more are m t (λ s. differ (leads_with_zero ((c ∷ b) ++ (tail ++ more))) (leads_is (c ∷ b) (tail ++ more) s) z)))

pub cover_float : (bytes more : List ℕ) → IsFloat bytes → Covered kinds.Float bytes (candidate (bytes ++ more))
cover_float bytes more f =
    subst (λ b. Covered kinds.Float b (candidate (b ++ more))) (sym f.is)
    (subst (λ t. Covered kinds.Float (minus f.negative ++ (f.number ++ f.tail)) (candidate t))
    (ap (λ x. minus f.negative ++ x) (sym (append_assoc f.number f.tail more)) ∙ sym (append_assoc (minus f.negative) (f.number ++ f.tail) more))
    (cover_float_by f.negative f.radix f.digits f.number f.tail more f.are f.marked f.goes_on))

-- ---- occurrences

star_covered : (before behind more : List ℕ) (lo hi : Bound) (k : ℕ) → k ≡ length before → IsBound behind hi → Covered (kinds.Occur lo hi) (before ++ 42 ∷ behind) (Ok (star_found lo k (behind ++ more)))
star_covered before behind more lo hi k e (inl (b, h)) =
    subst (λ x. Covered (kinds.Occur lo hi) (before ++ 42 ∷ x) (Ok (star_found lo k (x ++ more)))) (sym b)
    (elim (tests (nat_lt 0 (numeral_at more).digits)) as (λ _. Covered (kinds.Occur lo hi) (before ++ 42 ∷ []) (Ok (star_found lo k more))) [
      | inl s ↦ subst (λ f. Covered (kinds.Occur lo hi) (before ++ 42 ∷ []) (Ok f)) (sym (star_yes lo k more s)) (omega (arith, e, length-append before (42 ∷ [])), λ q. absurd (omega (arith, e, length-append before (42 ∷ []), q, true_lt (numeral_at more).digits s)))
      | inr s ↦ subst (λ f. Covered (kinds.Occur lo hi) (before ++ 42 ∷ []) (Ok f)) (sym (star_no lo k more s)) (omega (arith, e, length-append before (42 ∷ [])), λ q. ap (kinds.Occur lo) h)
    ])
star_covered before behind more lo hi k e (inr (n, u, h)) =
    let m = numeral_most behind more n u in
    let s = lt_true (numeral_at (behind ++ more)).digits m.some in
    let longer = m.longer in
    subst (λ f. Covered (kinds.Occur lo hi) (before ++ 42 ∷ behind) (Ok f)) (sym (star_yes lo k (behind ++ more) s))
    (omega (arith, e, length-append before (42 ∷ behind), longer), λ q. ap (kinds.Occur lo) (h ∙ ap bound_of (sym (m.same (omega (arith, e, length-append before (42 ∷ behind), q))))))

star_opens : opening_of 42 ≡ opens.Star
unfolding opening_of opening_of_mark is_name_start is_letter is_decimal
star_opens = refl

-- a number before its star
number_star : (radix : Radix) (digits before text : List ℕ) → AreDigits radix digits → IsMarked radix digits before → ¬ LeadsWithZero before →
    number_found false (before ++ 42 ∷ text) ≡ star_found (bound_of (number_of radix digits)) (length before) text
unfolding number_found
number_star radix digits before text are m short =
    let n : Numeral = exactly radix (length digits) in
    let whole : List ℕ = before ++ 42 ∷ text in
    let exact : numeral_at whole ≡ n = numeral_exact radix digits before 42 text are m short (star_ends radix) in
    let len : length before ≡ numeral_len n = marked_len radix digits before m in
    let rest : drop (numeral_len n) whole ≡ 42 ∷ text = drop_at before (42 ∷ text) (numeral_len n) len in
    let h : nat_lt 0 (tail_len radix (drop (numeral_len n) whole)) ≡ false = rw (rest, tail_star radix text) refl in
    let k : eqb (get_or whole (numeral_len n) 0) 42 ≡ true = rw (get_or_at before 42 text 0 (numeral_len n) len) refl in
    let behind : drop (numeral_len n + 1) whole ≡ text = sym (drop-drop 1 (numeral_len n) whole) ∙ ap (drop 1) rest in
    ap (λ x. number_by false x whole) exact
    ∙ (occur_yes false n whole h k
    ∙ (ap (λ v. star_found (bound_of v) (numeral_len n) (drop (numeral_len n + 1) whole)) (marked_value radix digits before (42 ∷ text) m)
    ∙ (ap (λ x. star_found (bound_of (number_of radix digits)) (numeral_len n) x) behind
    ∙ ap (λ x. star_found (bound_of (number_of radix digits)) x text) (sym len))))

number_star_cover : (before behind more : List ℕ) (lo hi : Bound) (n : ℕ) → IsUnsigned before n → lo ≡ bound_of n → IsBound behind hi → Covered (kinds.Occur lo hi) (before ++ 42 ∷ behind) (candidate (before ++ 42 ∷ (behind ++ more)))
number_star_cover [] behind more lo hi n u e b = absurd (no_unsigned n u)
number_star_cover (c ∷ before) behind more lo hi n u e b =
    signed_candidate (kinds.Occur lo hi) ((c ∷ before) ++ 42 ∷ behind) false c (before ++ 42 ∷ (behind ++ more)) (marked_first u.radix u.digits c before u.are.1 u.marked)
    (signed_covered (kinds.Occur lo hi) ((c ∷ before) ++ 42 ∷ behind) false (c ∷ (before ++ 42 ∷ (behind ++ more))) (λ _.
    subst (λ f. Covered (kinds.Occur lo hi) ((c ∷ before) ++ 42 ∷ behind) (Ok f)) (sym (number_star u.radix u.digits (c ∷ before) (behind ++ more) u.are u.marked u.short))
    (subst (λ x. Covered (kinds.Occur lo hi) ((c ∷ before) ++ 42 ∷ behind) (Ok (star_found x (length (c ∷ before)) (behind ++ more)))) (e ∙ ap bound_of u.value) (star_covered (c ∷ before) behind more lo hi (length (c ∷ before)) refl b))))

star_cover : (before behind more : List ℕ) (lo hi : Bound) → IsBound before lo → IsBound behind hi → Covered (kinds.Occur lo hi) (before ++ 42 ∷ behind) (candidate (before ++ 42 ∷ (behind ++ more)))
star_cover before behind more lo hi (inl (b, l)) h =
    subst (λ x. Covered (kinds.Occur lo hi) (x ++ 42 ∷ behind) (candidate (x ++ 42 ∷ (behind ++ more)))) (sym b)
    (covered_same (kinds.Occur lo hi) (42 ∷ behind) (candidate (42 ∷ (behind ++ more))) (Ok (star_found Missing 0 (behind ++ more))) (candidate_at 42 (behind ++ more) opens.Star star_opens)
    (subst (λ x. Covered (kinds.Occur x hi) (42 ∷ behind) (Ok (star_found Missing 0 (behind ++ more)))) (sym l) (star_covered [] behind more Missing hi 0 refl h)))
star_cover before behind more lo hi (inr (n, u, l)) h = number_star_cover before behind more lo hi n u l h

once_cover : (c : ℕ) (more : List ℕ) (lo hi : Bound) (o : Opening) → opening_of c ≡ o → found_by o (c ∷ more) ≡ Ok (occurrence lo hi) → Covered (kinds.Occur lo hi) (c ∷ []) (candidate (c ∷ more))
once_cover c more lo hi o e f = covered_same (kinds.Occur lo hi) (c ∷ []) (candidate (c ∷ more)) (Ok (occurrence lo hi)) (candidate_at c more o e ∙ f) (omega arith, λ q. refl)

question_opens : opening_of 63 ≡ opens.Question
unfolding opening_of opening_of_mark is_name_start is_letter is_decimal
question_opens = refl

plus_opens : opening_of 43 ≡ opens.Plus
unfolding opening_of opening_of_mark is_name_start is_letter is_decimal
plus_opens = refl

twice : (a b lo hi : Bound) → lo ≡ a → hi ≡ b → occurrence a b ≡ occurrence lo hi
twice a b lo hi e f = ap (λ x. occurrence x b) (sym e) ∙ ap (occurrence lo) (sym f)

pub cover_occur : (bytes more : List ℕ) (lo hi : Bound) → IsOccur bytes lo hi → Covered (kinds.Occur lo hi) bytes (candidate (bytes ++ more))
cover_occur bytes more lo hi (inl (b, l, h)) =
    subst (λ x. Covered (kinds.Occur lo hi) x (candidate (x ++ more))) (sym b) (once_cover 63 more lo hi opens.Question question_opens (ap Ok (twice (Is 0) (Is 1) lo hi l h)))
cover_occur bytes more lo hi (inr (inl (b, l, h))) =
    subst (λ x. Covered (kinds.Occur lo hi) x (candidate (x ++ more))) (sym b) (once_cover 43 more lo hi opens.Plus plus_opens (ap Ok (twice (Is 1) Missing lo hi l h)))
cover_occur bytes more lo hi (inr (inr s)) =
    subst (λ x. Covered (kinds.Occur lo hi) x (candidate (x ++ more))) (sym s.is)
    (subst (λ t. Covered (kinds.Occur lo hi) (s.before ++ 42 ∷ s.behind) (candidate t)) (sym (append_assoc s.before (42 ∷ s.behind) more)) (star_cover s.before s.behind more lo hi s.low s.high))
