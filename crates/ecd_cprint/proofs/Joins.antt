-- What keeps lexemes apart.
use Rattle.std.proofs.Common.{◌≡◌, ℕ, zero, suc, ◌-◌, ◌<◌, Bool, true, false, ◌||◌, ◌&&◌, List, [], ◌∷◌, ◌++◌, length, refl, ap, sym, ◌∙◌, subst, arith, append_assoc, length-append, append-nil, take}
use Rattle.std.specs.Prelude.{nat_eq, codes, slice_get, Option, Some, None, bytes_eq, if◌then◌else◌, not}
use Rattle.std.specs.List.{list_all, list_any}
use Rattle.std.proofs.lemmas.List.Folds.{list_all-append}
use Rattle.std.proofs.lemmas.Slice.Eq.{bytes_eq-Decides}
use Rattle.std.proofs.lemmas.Bool.{eqb-true}
use Rattle.ecd_cast.specs.Lexemes.{Lexeme, AreLexemes, Laid, IsLongest, is_lexeme, is_word, is_digits, is_literal, digits_and_ull, is_sign, is_pair_sign, is_word_byte, begins_word, is_digit, is_blank}
use Rattle.ecd_cast.specs.Spelling.{first_line, program_lexemes, Spells}
use Rattle.ecd_cast.specs.declared.tree.Program.{Program}
use Rattle.ecd_cprint.specs.Layout.{may_join, seam, last_byte, first_byte, Extends, Grows, IsGap}

-- ---- tests

or_false : (a b : Bool) → a ≡ false → b ≡ false → (a || b) ≡ false
or_false a b e h = rw (e, h)

and_first : (a b : Bool) → (a && b) ≡ true → a ≡ true
and_first true b e = refl
and_first false b e = e

and_second : (a b : Bool) → (a && b) ≡ true → b ≡ true
and_second true b e = e
and_second false b e = absurd cc

and_true : (a b : Bool) → a ≡ true → b ≡ true → (a && b) ≡ true
and_true a b e h = rw (e, h)

or_left : (a b : Bool) → a ≡ true → (a || b) ≡ true
or_left a b e = rw e

or_right : (a b : Bool) → b ≡ true → (a || b) ≡ true
or_right true b e = refl
or_right false b e = e

-- ---- every lexeme that is no sign is made of the bytes of words

abbrev all_word : List ℕ → Bool
all_word w = list_all is_word_byte w

digit_is_word : (c : ℕ) → is_digit c ≡ true → is_word_byte c ≡ true
digit_is_word c e = or_right (begins_word c) (is_digit c) e

begin_is_word : (c : ℕ) → begins_word c ≡ true → is_word_byte c ≡ true
begin_is_word c e = or_left (begins_word c) (is_digit c) e

digits_are_word : (w : List ℕ) → list_all is_digit w ≡ true → all_word w ≡ true
digits_are_word [] e = refl
digits_are_word (c ∷ cs) e = and_true (is_word_byte c) (all_word cs) (digit_is_word c (and_first (is_digit c) (list_all is_digit cs) e)) (digits_are_word cs (and_second (is_digit c) (list_all is_digit cs) e))

word_all : (w : List ℕ) → is_word w ≡ true → all_word w ≡ true
word_all [] e = refl
word_all (c ∷ cs) e = and_true (is_word_byte c) (all_word cs) (begin_is_word c (and_first (begins_word c) (all_word cs) e)) (and_second (begins_word c) (all_word cs) e)

digits_all : (w : List ℕ) → is_digits w ≡ true → all_word w ≡ true
digits_all [] e = refl
digits_all (c ∷ []) e = and_true (is_word_byte c) true (digit_is_word c e) refl
digits_all (c ∷ d ∷ cs) e =
    let front = and_first (is_digit c && not (nat_eq c 48)) (list_all is_digit (d ∷ cs)) e in
    and_true (is_word_byte c) (all_word (d ∷ cs)) (digit_is_word c (and_first (is_digit c) (not (nat_eq c 48)) front))
    (digits_are_word (d ∷ cs) (and_second (is_digit c && not (nat_eq c 48)) (list_all is_digit (d ∷ cs)) e))

bytes_same : (v w : List ℕ) → bytes_eq v w ≡ true → v ≡ w
bytes_same v w e = (bytes_eq-Decides v w).0 e

ull_all : (w : List ℕ) → bytes_eq w (codes "ull") ≡ true → all_word w ≡ true
ull_all w e = subst (λ (x : List ℕ). all_word x ≡ true) (sym (bytes_same w (codes "ull") e)) refl

ull_tail : (w : List ℕ) → digits_and_ull w ≡ true → all_word w ≡ true
ull_tail [] e = absurd cc
ull_tail (c ∷ cs) e = by_case (is_digit c && digits_and_ull cs) refl (λ h. ull_tail cs h) e
  where
    by_case : (b : Bool) → (is_digit c && digits_and_ull cs) ≡ b → (digits_and_ull cs ≡ true → all_word cs ≡ true) → (b || bytes_eq (c ∷ cs) (codes "ull")) ≡ true → all_word (c ∷ cs) ≡ true
    by_case true h rest e = and_true (is_word_byte c) (all_word cs) (digit_is_word c (and_first (is_digit c) (digits_and_ull cs) h)) (rest (and_second (is_digit c) (digits_and_ull cs) h))
    by_case false h rest e = ull_all (c ∷ cs) e

literal_all : (w : List ℕ) → is_literal w ≡ true → all_word w ≡ true
literal_all [] e = refl
literal_all (c ∷ cs) e = by_case (nat_eq c 48) refl e
  where
    by_case : (b : Bool) → nat_eq c 48 ≡ b → (if b then bytes_eq cs (codes "ull") else (is_digit c && digits_and_ull cs)) ≡ true → all_word (c ∷ cs) ≡ true
    by_case true h e =
        let zero : c ≡ 48 = eqb-true c 48 h in
        and_true (is_word_byte c) (all_word cs) (subst (λ (x : ℕ). is_word_byte x ≡ true) (sym zero) refl) (ull_all cs e)
    by_case false h e = and_true (is_word_byte c) (all_word cs) (digit_is_word c (and_first (is_digit c) (digits_and_ull cs) e)) (ull_tail cs (and_second (is_digit c) (digits_and_ull cs) e))

-- ---- the last byte of a lexeme and the byte behind it

last_word : (l : List ℕ) (a : ℕ) → all_word (a ∷ l) ≡ true → (x : ℕ) × (last_byte (a ∷ l) ≡ Some x) × (is_word_byte x ≡ true)
last_word [] a e = (a, refl, and_first (is_word_byte a) true e)
last_word (b ∷ l) a e =
    let r = last_word l b (and_second (is_word_byte a) (all_word (b ∷ l)) e) in
    (r.0, last_cons a b l ∙ r.1, r.2)
  where
    last_cons : (a b : ℕ) (l : List ℕ) → last_byte (a ∷ b ∷ l) ≡ last_byte (b ∷ l)
    last_cons a b l = ap (λ n. slice_get (a ∷ b ∷ l) n) (shape (length l)) ∙ ap (λ n. slice_get (b ∷ l) n) (sym (other (length l)))
      where
        shape : (n : ℕ) → suc (suc n) - 1 ≡ suc n
        shape n = omega arith

        other : (n : ℕ) → suc n - 1 ≡ n
        other n = omega arith

-- a lexeme that goes on joins
pub goes_on_joins : (l more : List ℕ) (a c : ℕ) → is_lexeme ((a ∷ l) ++ c ∷ more) ≡ true → seam (last_byte (a ∷ l)) (Some c) ≡ true
goes_on_joins l more a c e = by_case (is_word w) (is_digits w) (is_literal w) refl refl refl e
  where
    w : List ℕ
    w = (a ∷ l) ++ c ∷ more

    words : all_word ((a ∷ l) ++ c ∷ more) ≡ true → seam (last_byte (a ∷ l)) (Some c) ≡ true
    words h =
        let split = sym (list_all-append is_word_byte (a ∷ l) (c ∷ more)) ∙ h in
        let r = last_word l a (and_first (all_word (a ∷ l)) (all_word (c ∷ more)) split) in
        let next = and_first (is_word_byte c) (all_word more) (and_second (all_word (a ∷ l)) (all_word (c ∷ more)) split) in
        ap (λ (o : Option ℕ). seam o (Some c)) r.1 ∙ or_left (is_word_byte r.0 && is_word_byte c) (is_pair_sign r.0 c) (and_true (is_word_byte r.0) (is_word_byte c) r.2 next)

    signs : (l more : List ℕ) → is_sign ((a ∷ l) ++ c ∷ more) ≡ true → seam (last_byte (a ∷ l)) (Some c) ≡ true
    signs [] [] h = or_right (is_word_byte a && is_word_byte c) (is_pair_sign a c) h
    signs [] (d ∷ more) h = absurd cc
    signs (b ∷ []) more h = absurd cc
    signs (b ∷ d ∷ l) more h = absurd cc

    by_case : (x y z : Bool) → is_word w ≡ x → is_digits w ≡ y → is_literal w ≡ z → (x || y || z || is_sign w) ≡ true → seam (last_byte (a ∷ l)) (Some c) ≡ true
    by_case true y z p q r h = words (word_all w p)
    by_case false true z p q r h = words (digits_all w q)
    by_case false false true p q r h = words (literal_all w r)
    by_case false false false p q r h = signs l more h

-- where the next byte does not join, the lexeme is the longest
longest : (l rest : List ℕ) → is_lexeme l ≡ true → seam (last_byte l) (first_byte rest) ≡ false → IsLongest l rest
longest [] rest h s more after e pos t = absurd cc
longest (a ∷ l) rest h s [] after e pos t = absurd (omega arith)
longest (a ∷ l) rest h s (c ∷ more) after e pos t =
    let first : first_byte rest ≡ Some c = ap first_byte e in
    let no : seam (last_byte (a ∷ l)) (Some c) ≡ false = ap (λ (o : Option ℕ). seam (last_byte (a ∷ l)) o) (sym first) ∙ s in
    let yes = goes_on_joins l more a c t in
    absurd cc

-- ---- white space

and_none : (a b : Bool) → b ≡ false → (a && b) ≡ false
and_none true b e = e
and_none false b e = refl

alike : (a n : ℕ) → (nat_eq n n && list_any (nat_eq n) (codes "<&|")) ≡ false → (nat_eq a n && list_any (nat_eq a) (codes "<&|")) ≡ false
alike a n e = by_case (nat_eq a n) refl
  where
    by_case : (b : Bool) → nat_eq a n ≡ b → (nat_eq a n && list_any (nat_eq a) (codes "<&|")) ≡ false
    by_case true h = subst (λ (x : ℕ). (nat_eq x n && list_any (nat_eq x) (codes "<&|")) ≡ false) (sym (eqb-true a n h)) e
    by_case false h = rw h

no_join : (a n : ℕ) → is_word_byte n ≡ false → is_pair_sign a n ≡ false → may_join a n ≡ false
no_join a n e h = or_false (is_word_byte a && is_word_byte n) (is_pair_sign a n) (and_none (is_word_byte a) (is_word_byte n) e) h

pub blank_never_joins : (o : Option ℕ) (c : ℕ) → is_blank c ≡ true → seam o (Some c) ≡ false
blank_never_joins None c e = refl
blank_never_joins (Some a) c e = by_case (nat_eq c 32) refl e
  where
    by_case : (b : Bool) → nat_eq c 32 ≡ b → (b || nat_eq c 10) ≡ true → may_join a c ≡ false
    by_case true h e = subst (λ (x : ℕ). may_join a x ≡ false) (sym (eqb-true c 32 h)) (no_join a 32 refl (alike a 32 refl))
    by_case false h e = subst (λ (x : ℕ). may_join a x ≡ false) (sym (eqb-true c 10 e)) (no_join a 10 refl (alike a 10 refl))

pub take_blank : (n : ℕ) (w : List ℕ) → list_all is_blank w ≡ true → list_all is_blank (take n w) ≡ true
take_blank zero w e = refl
take_blank (suc n) [] e = refl
take_blank (suc n) (c ∷ cs) e = and_true (is_blank c) (list_all is_blank (take n cs)) (and_first (is_blank c) (list_all is_blank cs) e) (take_blank n cs (and_second (is_blank c) (list_all is_blank cs) e))

-- a line break and the front of its indentation
pub line_gap : (text lexeme w : List ℕ) (n : ℕ) → 0 < n → list_all is_blank (10 ∷ w) ≡ true → IsGap text lexeme (take n (10 ∷ w))
line_gap text lexeme w zero h e = absurd (omega arith)
line_gap text lexeme w (suc n) h e = record { blank = take_blank (suc n) (10 ∷ w) e; apart = blank_never_joins (last_byte text) 10 refl }

-- ---- one more lexeme

last_after : (text l : List ℕ) (a : ℕ) → last_byte (text ++ a ∷ l) ≡ last_byte (a ∷ l)
last_after [] l a = refl
last_after (b ∷ text) l a = step b (text ++ a ∷ l) (filled text) ∙ last_after text l a
  where
    filled : (t : List ℕ) → 0 < length (t ++ a ∷ l)
    filled t = omega (arith, length-append t (a ∷ l))

    step : (b : ℕ) (w : List ℕ) → 0 < length w → last_byte (b ∷ w) ≡ last_byte w
    step b [] h = absurd (omega arith)
    step b (c ∷ w) h =
        let one : suc (suc (length w)) - 1 ≡ suc (length w) = omega arith in
        let two : suc (length w) - 1 ≡ length w = omega arith in
        ap (λ n. slice_get (b ∷ c ∷ w) n) one ∙ ap (λ n. slice_get (c ∷ w) n) (sym two)

first_before : (gap lexeme rest : List ℕ) (a : ℕ) → first_byte ((gap ++ a ∷ lexeme) ++ rest) ≡ first_byte (gap ++ a ∷ lexeme)
first_before [] lexeme rest a = refl
first_before (g ∷ gap) lexeme rest a = refl

extends_put : (before : List Lexeme) (text gap l : List ℕ) → is_lexeme l ≡ true → IsGap text l gap → Extends before text → Extends (before ++ l ∷ []) (text ++ (gap ++ l))
extends_put before text gap [] h g e = absurd cc
extends_put before text gap (a ∷ l) h g e = record {
  body = e.body ++ (gap ++ a ∷ l);
  begins = ap (λ (t : List ℕ). t ++ (gap ++ a ∷ l)) e.begins ∙ append_assoc first_line e.body (gap ++ a ∷ l);
  more = λ next rest apart laid.
      let behind = last_after (text ++ gap) l a in
      let glued : text ++ (gap ++ a ∷ l) ≡ (text ++ gap) ++ a ∷ l = sym (append_assoc text gap (a ∷ l)) in
      let same : last_byte (text ++ (gap ++ a ∷ l)) ≡ last_byte (a ∷ l) = ap last_byte glued ∙ behind in
      let free : seam (last_byte (a ∷ l)) (first_byte rest) ≡ false = ap (λ (o : Option ℕ). seam o (first_byte rest)) (sym same) ∙ apart in
      let here : Laid ((a ∷ l) ∷ next) ((gap ++ a ∷ l) ++ rest) = (gap, rest, g.blank, append_assoc gap (a ∷ l) rest, longest (a ∷ l) rest h free, laid) in
      let front : seam (last_byte text) (first_byte ((gap ++ a ∷ l) ++ rest)) ≡ false = ap (λ (o : Option ℕ). seam (last_byte text) o) (first_before gap l rest a) ∙ g.apart in
      let all = e.more ((a ∷ l) ∷ next) ((gap ++ a ∷ l) ++ rest) front here in
      let lists : before ++ ((a ∷ l) ∷ next) ≡ (before ++ (a ∷ l) ∷ []) ++ next = sym (append_assoc before ((a ∷ l) ∷ []) next) in
      let texts : e.body ++ ((gap ++ a ∷ l) ++ rest) ≡ (e.body ++ (gap ++ a ∷ l)) ++ rest = sym (append_assoc e.body (gap ++ a ∷ l) rest) in
      subst (λ (ls : List Lexeme). Laid ls ((e.body ++ (gap ++ a ∷ l)) ++ rest)) lists (subst (λ (t : List ℕ). Laid (before ++ ((a ∷ l) ∷ next)) t) texts all);
}

pub grows_put : (old new gap l : List ℕ) → IsGap old l gap → new ≡ (old ++ gap) ++ l → Grows old new (l ∷ [])
grows_put old new gap l g e = record {
  goes_on = λ are before x.
      let grown = extends_put before old gap l are.0 g x in
      subst (λ (t : List ℕ). Extends (before ++ l ∷ []) t) (sym (append_assoc old gap l) ∙ sym e) grown;
}

-- ---- lists of lexemes

pub are_append : (xs ys : List Lexeme) → AreLexemes (xs ++ ys) → AreLexemes xs × AreLexemes ys
are_append [] ys h = (tt, h)
are_append (x ∷ xs) ys h = let r = are_append xs ys h.1 in ((h.0, r.0), r.1)

pub grows_then : {a b c : List ℕ} {x y : List Lexeme} → Grows a b x → Grows b c y → Grows a c (x ++ y)
grows_then {a} {b} {c} {x} {y} h k = record {
  goes_on = λ are before e.
      let r = are_append x y are in
      subst (λ (ls : List Lexeme). Extends ls c) (append_assoc before x y) (k.goes_on r.1 (before ++ x) (h.goes_on r.0 before e));
}

pub grows_none : (a : List ℕ) → Grows a a []
grows_none a = record { goes_on = λ are before e. subst (λ (ls : List Lexeme). Extends ls a) (sym (append-nil before)) e }

-- ---- the whole text

begun : Extends [] first_line
begun = record { body = []; begins = sym (append-nil first_line); more = λ next rest apart laid. laid }

pub spelled : (p : Program) (text : List ℕ) → AreLexemes (program_lexemes p) → Grows first_line text (program_lexemes p) → Spells p (text ++ 10 ∷ [])
spelled p text are g =
    let e = g.goes_on are [] begun in
    let free : seam (last_byte text) (Some 10) ≡ false = blank_never_joins (last_byte text) 10 refl in
    record {
      rest = e.body ++ 10 ∷ [];
      begins = ap (λ (t : List ℕ). t ++ 10 ∷ []) e.begins ∙ append_assoc first_line e.body (10 ∷ []);
      laid = subst (λ (ls : List Lexeme). Laid ls (e.body ++ 10 ∷ [])) (append-nil (program_lexemes p)) (e.more [] (10 ∷ []) free refl);
    }
