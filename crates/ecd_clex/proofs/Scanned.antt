-- What is scanned is laid out: each token a lexeme, and the longest at its place.
use Rattle.std.proofs.Common.{◌≡◌, ℕ, suc, ◌+◌, ◌<◌, ◌≤◌, ◌⊎◌, inl, inr, Bool, true, false, cond, ◌||◌, ◌&&◌, List, [], ◌∷◌, ◌++◌, length, take, drop, refl, ap, sym, ◌∙◌, subst, arith, one-add, append_assoc}
use Rattle.std.specs.Prelude.{nat_eq, not, bytes_eq, codes}
use Rattle.std.specs.List.{list_all, list_any, prefix_len}
use Rattle.std.proofs.Math.Seq.{take-add, drop-append_seam}
use Rattle.std.proofs.lemmas.Bool.{eqb-true}
use Rattle.std.proofs.lemmas.Bool.Decides.{nat_tests}
use Rattle.std.proofs.lemmas.List.{length-append, length-take, take-append-drop}
use Rattle.std.proofs.lemmas.Slice.Eq.{bytes_eq-Decides}
use Rattle.ecd_cast.specs.Lexemes.{Lexeme, IsLongest, is_lexeme, is_word, is_digits, is_literal, digits_and_ull, is_sign, is_pair_sign, is_one_sign, begins_word, is_word_byte, is_digit}
use Rattle.ecd_cgrammar.proofs.Lexing.{some_bytes}
use Rattle.ecd_text.specs.Bytes.{byte_at}
use Rattle.ecd_clex.specs.Scan.{digits_len, is_ull, number_len, sign_len, front_len}

-- ---- runs

and_both : (a b : Bool) → (a && b) ≡ true → (a ≡ true) × (b ≡ true)
and_both true b h = (refl, h)
and_both false b h = absurd cc

and_true : (a b : Bool) → a ≡ true → b ≡ true → (a && b) ≡ true
and_true a b e h = rw (e, h)

module _ (p : ℕ → Bool) where
  -- the bytes of a run pass
  pub run_passes : (text : List ℕ) → list_all p (take (prefix_len p text) text) ≡ true
  run_passes [] = refl
  run_passes (c ∷ cs) = by_test (p c) refl (run_passes cs)
    where
      by_test : (b : Bool) → p c ≡ b → list_all p (take (prefix_len p cs) cs) ≡ true → list_all p (take (prefix_len p (c ∷ cs)) (c ∷ cs)) ≡ true
      by_test true e h = rw (e, one-add (prefix_len p cs), e) h
      by_test false e h = rw e refl

  -- a front that passes is no longer than the run
  run_bound : (w after : List ℕ) → list_all p w ≡ true → length w ≤ prefix_len p (w ++ after)
  run_bound [] after h = omega arith
  run_bound (c ∷ w) after h =
      let r = and_both (p c) (list_all p w) h in
      let more = run_bound w after r.1 in
      rw (r.0, one-add (prefix_len p (w ++ after))) (omega (arith, more))

  -- and where a byte that does not pass follows, it is as long
  run_exact : (w : List ℕ) (c : ℕ) (after : List ℕ) → list_all p w ≡ true → p c ≡ false → prefix_len p (w ++ c ∷ after) ≡ length w
  run_exact [] c after h e = rw e refl
  run_exact (d ∷ w) c after h e =
      let r = and_both (p d) (list_all p w) h in
      rw (r.0, one-add (prefix_len p (w ++ c ∷ after))) (ap suc (run_exact w c after r.1 e))

  run_some : (c : ℕ) (cs : List ℕ) → p c ≡ true → prefix_len p (c ∷ cs) ≡ suc (prefix_len p cs)
  run_some c cs e = rw (e, one-add (prefix_len p cs)) refl

-- ---- what stands at the front is a lexeme

lexeme_word : (w : Lexeme) → is_word w ≡ true → is_lexeme w ≡ true
lexeme_word w e = rw e refl

lexeme_digits : (w : Lexeme) → is_digits w ≡ true → is_lexeme w ≡ true
lexeme_digits w e = by_test (is_word w)
  where
    by_test : (b : Bool) → (b || is_digits w || is_literal w || is_sign w) ≡ true
    by_test true = refl
    by_test false = rw e refl

lexeme_literal : (w : Lexeme) → is_literal w ≡ true → is_lexeme w ≡ true
lexeme_literal w e = by_test (is_word w) (is_digits w)
  where
    by_test : (a b : Bool) → (a || b || is_literal w || is_sign w) ≡ true
    by_test true b = refl
    by_test false true = refl
    by_test false false = rw e refl

lexeme_sign : (w : Lexeme) → is_sign w ≡ true → is_lexeme w ≡ true
lexeme_sign w e = by_test (is_word w) (is_digits w) (is_literal w)
  where
    by_test : (a b c : Bool) → (a || b || c || is_sign w) ≡ true
    by_test true b c = refl
    by_test false true c = refl
    by_test false false true = refl
    by_test false false false = e

-- the front of a text that begins with a word
word_front : (c : ℕ) (cs : List ℕ) → begins_word c ≡ true → is_lexeme (take (prefix_len is_word_byte (c ∷ cs)) (c ∷ cs)) ≡ true
word_front c cs e =
    let first : is_word_byte c ≡ true = rw e refl in
    rw (run_some is_word_byte c cs first) (lexeme_word (c ∷ take (prefix_len is_word_byte cs) cs) (and_true (begins_word c) _ e (run_passes is_word_byte cs)))

-- ---- digits

digits_join : (c : ℕ) (ds : List ℕ) → is_digit c ≡ true → nat_eq c 48 ≡ false → list_all is_digit ds ≡ true → is_digits (c ∷ ds) ≡ true
digits_join c [] e z h = e
digits_join c (d ∷ ds) e z h = and_true (is_digit c && not (nat_eq c 48)) (list_all is_digit (d ∷ ds)) (and_true (is_digit c) (not (nat_eq c 48)) e (ap not z)) h

ull_join : (ds : List ℕ) → list_all is_digit ds ≡ true → digits_and_ull (ds ++ codes "ull") ≡ true
ull_join [] h = refl
ull_join (d ∷ ds) h =
    let r = and_both (is_digit d) (list_all is_digit ds) h in
    rw (r.0, ull_join ds r.1) refl

literal_join : (c : ℕ) (ds : List ℕ) → is_digit c ≡ true → nat_eq c 48 ≡ false → list_all is_digit ds ≡ true → is_literal (c ∷ (ds ++ codes "ull")) ≡ true
literal_join c ds e z h = rw (z, e, ull_join ds h) refl

ull_front : (text : List ℕ) → is_ull text ≡ true → (rest : List ℕ) × (text ≡ codes "ull" ++ rest)
unfolding is_ull
ull_front [] h = absurd cc
ull_front (a ∷ []) h = absurd (let r = and_both (nat_eq a 117 && false) false h in cc)
ull_front (a ∷ b ∷ []) h = absurd (let r = and_both (nat_eq a 117 && nat_eq b 108) false h in cc)
ull_front (a ∷ b ∷ c ∷ rest) h =
    let r = and_both (nat_eq a 117 && nat_eq b 108) (nat_eq c 108) h in
    let s = and_both (nat_eq a 117) (nat_eq b 108) r.0 in
    (rest, rw (eqb-true a 117 s.0, eqb-true b 108 s.1, eqb-true c 108 r.1) refl)

number_front : (c : ℕ) (cs : List ℕ) → is_digit c ≡ true → is_lexeme (take (number_len (c ∷ cs)) (c ∷ cs)) ≡ true
unfolding number_len digits_len
number_front c cs e = by_zero (nat_eq c 48) refl
  where
    by_ull : (n : ℕ) (b : Bool) → is_ull (drop n (c ∷ cs)) ≡ b → is_lexeme (take n (c ∷ cs)) ≡ true → ((rest : List ℕ) → drop n (c ∷ cs) ≡ codes "ull" ++ rest → is_lexeme (take (n + 3) (c ∷ cs)) ≡ true) → is_lexeme (take (cond b (n + 3) n) (c ∷ cs)) ≡ true
    by_ull n false h short long = short
    by_ull n true h short long = let r = ull_front (drop n (c ∷ cs)) h in long r.0 r.1

    by_zero : (z : Bool) → nat_eq c 48 ≡ z → is_lexeme (take (cond (is_ull (drop (cond z 1 (prefix_len is_digit (c ∷ cs))) (c ∷ cs))) (cond z 1 (prefix_len is_digit (c ∷ cs)) + 3) (cond z 1 (prefix_len is_digit (c ∷ cs)))) (c ∷ cs)) ≡ true
    by_zero true z = by_ull 1 (is_ull cs) refl (lexeme_digits (c ∷ []) e) (λ rest h. rw (h, eqb-true c 48 z) refl)
    by_zero false z =
        rw (run_some is_digit c cs e)
        (by_ull (suc (prefix_len is_digit cs)) (is_ull (drop (prefix_len is_digit cs) cs)) refl (lexeme_digits (c ∷ take (prefix_len is_digit cs) cs) (digits_join c (take (prefix_len is_digit cs) cs) e z (run_passes is_digit cs)))
        (λ rest h. let n : ℕ = prefix_len is_digit cs in rw (longer n rest h) (lexeme_literal (c ∷ (take n cs ++ codes "ull")) (literal_join c (take n cs) e z (run_passes is_digit cs)))))
      where
        longer : (n : ℕ) (rest : List ℕ) → drop n cs ≡ codes "ull" ++ rest → take (suc n + 3) (c ∷ cs) ≡ c ∷ (take n cs ++ codes "ull")
        longer n rest h = let f : suc n + 3 ≡ suc (n + 3) = omega arith in rw f (ap (λ (t : List ℕ). c ∷ t) (take-add n 3 cs ∙ ap (λ (t : List ℕ). take n cs ++ take 3 t) h))

-- ---- signs

no_pair : (a : ℕ) → is_pair_sign a 0 ≡ false
no_pair a = by_zero (nat_eq a 0) refl
  where
    by_zero : (b : Bool) → nat_eq a 0 ≡ b → is_pair_sign a 0 ≡ false
    by_zero true e = rw (eqb-true a 0 e) refl
    by_zero false e = rw e refl

sign_front : (text : List ℕ) → 0 < sign_len text → is_lexeme (take (sign_len text) text) ≡ true
unfolding sign_len
sign_front [] lt = absurd (omega arith)
sign_front (a ∷ []) lt = by_one (is_pair_sign a 0) refl (is_one_sign a) refl lt
  where
    by_one : (p : Bool) → is_pair_sign a 0 ≡ p → (q : Bool) → is_one_sign a ≡ q → 0 < cond p 2 (cond q 1 0) → is_lexeme (take (cond p 2 (cond q 1 0)) (a ∷ [])) ≡ true
    by_one true e q f lt = absurd (let g : true ≡ false = sym e ∙ no_pair a in cc)
    by_one false e true f lt = lexeme_sign (a ∷ []) f
    by_one false e false f lt = absurd (omega arith)
sign_front (a ∷ b ∷ rest) lt = by_pair (is_pair_sign a b) refl (is_one_sign a) refl lt
  where
    by_pair : (p : Bool) → is_pair_sign a b ≡ p → (q : Bool) → is_one_sign a ≡ q → 0 < cond p 2 (cond q 1 0) → is_lexeme (take (cond p 2 (cond q 1 0)) (a ∷ b ∷ rest)) ≡ true
    by_pair true e q f lt = lexeme_sign (a ∷ b ∷ []) e
    by_pair false e true f lt = lexeme_sign (a ∷ []) f
    by_pair false e false f lt = absurd (omega arith)

pub front_known : (text : List ℕ) → 0 < front_len text → is_lexeme (take (front_len text) text) ≡ true
unfolding front_len
front_known text lt = by_word (begins_word (byte_at text 0)) refl (is_digit (byte_at text 0)) refl lt
  where
    word : (t : List ℕ) → begins_word (byte_at t 0) ≡ true → is_lexeme (take (prefix_len is_word_byte t) t) ≡ true
    word [] e = absurd cc
    word (c ∷ cs) e = word_front c cs e

    number : (t : List ℕ) → is_digit (byte_at t 0) ≡ true → is_lexeme (take (number_len t) t) ≡ true
    number [] e = absurd cc
    number (c ∷ cs) e = number_front c cs e

    by_word : (a : Bool) → begins_word (byte_at text 0) ≡ a → (b : Bool) → is_digit (byte_at text 0) ≡ b → 0 < cond a (prefix_len is_word_byte text) (cond b (number_len text) (sign_len text))
        → is_lexeme (take (cond a (prefix_len is_word_byte text) (cond b (number_len text) (sign_len text))) text) ≡ true
    by_word true e b f lt = word text e
    by_word false e true f lt = number text f
    by_word false e false f lt = sign_front text lt

-- ---- and no longer one stands there

all_word_digits : (w : List ℕ) → list_all is_digit w ≡ true → list_all is_word_byte w ≡ true
all_word_digits [] h = refl
all_word_digits (c ∷ w) h =
    let r = and_both (is_digit c) (list_all is_digit w) h in
    and_true (is_word_byte c) (list_all is_word_byte w) (or_right (begins_word c) (is_digit c) r.0) (all_word_digits w r.1)
  where
    or_right : (a b : Bool) → b ≡ true → (a || b) ≡ true
    or_right true b e = refl
    or_right false b e = e

-- the kinds of lexemes by their first byte
data Kind (c : ℕ) (ds : List ℕ) : Type 0 where
  AWord : begins_word c ≡ true → list_all is_word_byte ds ≡ true → Kind c ds
  ANumber : is_digits (c ∷ ds) ≡ true → Kind c ds
  ALiteral : is_literal (c ∷ ds) ≡ true → Kind c ds
  ASign : is_sign (c ∷ ds) ≡ true → Kind c ds

kind_of : (c : ℕ) (ds : List ℕ) → is_lexeme (c ∷ ds) ≡ true → Kind c ds
kind_of c ds h = by_tests (is_word (c ∷ ds)) refl (is_digits (c ∷ ds)) refl (is_literal (c ∷ ds)) refl (is_sign (c ∷ ds)) refl h
  where
    by_tests : (x : Bool) → is_word (c ∷ ds) ≡ x → (y : Bool) → is_digits (c ∷ ds) ≡ y → (z : Bool) → is_literal (c ∷ ds) ≡ z → (u : Bool) → is_sign (c ∷ ds) ≡ u → (x || y || z || u) ≡ true → Kind c ds
    by_tests true e y f z g u k h = let r = and_both (begins_word c) (list_all is_word_byte ds) e in AWord r.0 r.1
    by_tests false e true f z g u k h = ANumber f
    by_tests false e false f true g u k h = ALiteral g
    by_tests false e false f false g true k h = ASign k
    by_tests false e false f false g false k h = absurd cc

digit_no_word : (c : ℕ) → is_digit c ≡ true → begins_word c ≡ false
digit_no_word c e = grind (arith, nat_tests, e)

digits_first : (c : ℕ) (ds : List ℕ) → is_digits (c ∷ ds) ≡ true → (is_digit c ≡ true) × (list_all is_digit ds ≡ true) × (nat_eq c 48 ≡ true → ds ≡ [])
digits_first c [] h = (h, refl, λ z. refl)
digits_first c (d ∷ ds) h =
    let r = and_both (is_digit c && not (nat_eq c 48)) (list_all is_digit (d ∷ ds)) h in
    let s = and_both (is_digit c) (not (nat_eq c 48)) r.0 in
    (s.0, r.1, λ z. absurd (let g : not true ≡ true = ap not (sym z) ∙ s.1 in cc))

-- what digits and ull are made of
ull_parts : (ds : List ℕ) → digits_and_ull ds ≡ true → (es : List ℕ) × (list_all is_digit es ≡ true) × (ds ≡ es ++ codes "ull")
ull_parts [] h = absurd cc
ull_parts (d ∷ ds) h = by_test (is_digit d) refl (digits_and_ull ds) refl (ull_parts ds) h
  where
    by_test : (a : Bool) → is_digit d ≡ a → (b : Bool) → digits_and_ull ds ≡ b → (digits_and_ull ds ≡ true → (es : List ℕ) × (list_all is_digit es ≡ true) × (ds ≡ es ++ codes "ull")) → ((a && b) || bytes_eq (d ∷ ds) (codes "ull")) ≡ true
        → (es : List ℕ) × (list_all is_digit es ≡ true) × (d ∷ ds ≡ es ++ codes "ull")
    by_test true e true f next h = let r = next f in (d ∷ r.0, and_true (is_digit d) (list_all is_digit r.0) e r.1, ap (λ (t : List ℕ). d ∷ t) r.2)
    by_test true e false f next h = ([], refl, (bytes_eq-Decides (d ∷ ds) (codes "ull")).0 h)
    by_test false e b f next h = ([], refl, (bytes_eq-Decides (d ∷ ds) (codes "ull")).0 h)

some_number : (c : ℕ) (cs : List ℕ) → is_digit c ≡ true → 0 < number_len (c ∷ cs)
unfolding number_len digits_len
some_number c cs e = by_tests (nat_eq c 48) (is_ull (drop (cond (nat_eq c 48) 1 (prefix_len is_digit (c ∷ cs))) (c ∷ cs)))
  where
    by_tests : (z u : Bool) → 0 < cond u (cond z 1 (prefix_len is_digit (c ∷ cs)) + 3) (cond z 1 (prefix_len is_digit (c ∷ cs)))
    by_tests true true = omega arith
    by_tests true false = omega arith
    by_tests false true = omega arith
    by_tests false false = rw (run_some is_digit c cs e) (omega arith)

number_bound : (c : ℕ) (ds after : List ℕ) → is_digits (c ∷ ds) ≡ true → length (c ∷ ds) ≤ number_len (c ∷ (ds ++ after))
unfolding number_len digits_len
number_bound c ds after h = let r = digits_first c ds h in by_tests (nat_eq c 48) refl (is_ull (drop (cond (nat_eq c 48) 1 (prefix_len is_digit (c ∷ (ds ++ after)))) (c ∷ (ds ++ after)))) r.2 (run_bound is_digit (c ∷ ds) after (and_true (is_digit c) (list_all is_digit ds) r.0 r.1))
  where
    by_tests : (z : Bool) → nat_eq c 48 ≡ z → (u : Bool) → (nat_eq c 48 ≡ true → ds ≡ []) → suc (length ds) ≤ prefix_len is_digit (c ∷ (ds ++ after)) → suc (length ds) ≤ cond u (cond z 1 (prefix_len is_digit (c ∷ (ds ++ after))) + 3) (cond z 1 (prefix_len is_digit (c ∷ (ds ++ after))))
    by_tests true e true alone le = let g = ap length (alone e) in omega (arith, g)
    by_tests true e false alone le = let g = ap length (alone e) in omega (arith, g)
    by_tests false e true alone le = omega (arith, le)
    by_tests false e false alone le = le

is_ull_there : (rest : List ℕ) → is_ull (codes "ull" ++ rest) ≡ true
unfolding is_ull
is_ull_there rest = refl

literal_first : (c : ℕ) (ds : List ℕ) → is_literal (c ∷ ds) ≡ true → is_digit c ≡ true
literal_first c ds h = by_zero (nat_eq c 48) refl h
  where
    by_zero : (z : Bool) → nat_eq c 48 ≡ z → cond z (bytes_eq ds (codes "ull")) (is_digit c && digits_and_ull ds) ≡ true → is_digit c ≡ true
    by_zero true e h = rw (eqb-true c 48 e) refl
    by_zero false e h = (and_both (is_digit c) (digits_and_ull ds) h).0

literal_bound : (c : ℕ) (ds after : List ℕ) → is_literal (c ∷ ds) ≡ true → length (c ∷ ds) ≤ number_len (c ∷ (ds ++ after))
unfolding number_len digits_len
literal_bound c ds after h = by_zero (nat_eq c 48) refl h
  where
    by_zero : (z : Bool) → nat_eq c 48 ≡ z → cond z (bytes_eq ds (codes "ull")) (is_digit c && digits_and_ull ds) ≡ true
        → suc (length ds) ≤ cond (is_ull (drop (cond z 1 (prefix_len is_digit (c ∷ (ds ++ after)))) (c ∷ (ds ++ after)))) (cond z 1 (prefix_len is_digit (c ∷ (ds ++ after))) + 3) (cond z 1 (prefix_len is_digit (c ∷ (ds ++ after))))
    by_zero true e h = let same : ds ≡ codes "ull" = (bytes_eq-Decides ds (codes "ull")).0 h in rw (same, is_ull_there after) (omega arith)
    by_zero false e h =
        let r = and_both (is_digit c) (digits_and_ull ds) h in
        let parts = ull_parts ds r.1 in
        let digits : List ℕ = c ∷ parts.0 in
        let text : c ∷ (ds ++ after) ≡ digits ++ (codes "ull" ++ after) = ap (λ (t : List ℕ). c ∷ t) (ap (λ (t : List ℕ). t ++ after) parts.2 ∙ append_assoc parts.0 (codes "ull") after) in
        let run : prefix_len is_digit (digits ++ (codes "ull" ++ after)) ≡ length digits = run_exact is_digit digits 117 (codes "ll" ++ after) (and_true (is_digit c) (list_all is_digit parts.0) r.0 parts.1) refl in
        let there : is_ull (drop (length digits) (digits ++ (codes "ull" ++ after))) ≡ true = rw (drop-append_seam digits (codes "ull" ++ after)) (is_ull_there after) in
        let size : length ds ≡ length parts.0 + 3 = ap length parts.2 ∙ length-append parts.0 (codes "ull") in
        subst (λ (t : List ℕ). suc (length ds) ≤ cond (is_ull (drop (prefix_len is_digit t) t)) (prefix_len is_digit t + 3) (prefix_len is_digit t)) (sym text) (rw (run, there) (omega (arith, size)))

-- a byte among these has what they have
among : (q : ℕ → Bool) (c : ℕ) (xs : List ℕ) → list_all q xs ≡ true → list_any (nat_eq c) xs ≡ true → q c ≡ true
among q c [] h g = absurd cc
among q c (x ∷ xs) h g = by_test (nat_eq c x) refl g (among q c xs (and_both (q x) (list_all q xs) h).1)
  where
    by_test : (b : Bool) → nat_eq c x ≡ b → (b || list_any (nat_eq c) xs) ≡ true → (list_any (nat_eq c) xs ≡ true → q c ≡ true) → q c ≡ true
    by_test true e g next = ap q (eqb-true c x e) ∙ (and_both (q x) (list_all q xs) h).0
    by_test false e g next = next g

no_word_byte : ℕ → Bool
no_word_byte c = not (begins_word c) && not (is_digit c)

or_cases : (a b : Bool) → (a || b) ≡ true → (a ≡ true) ⊎ (b ≡ true)
or_cases true b h = inl refl
or_cases false b h = inr h

pair_first : (c b : ℕ) → is_pair_sign c b ≡ true → no_word_byte c ≡ true
unfolding no_word_byte
pair_first c b h = elim (or_cases (nat_eq b 61 && list_any (nat_eq c) (codes "+=!<>") || nat_eq b 62 && list_any (nat_eq c) (codes "->")) (nat_eq c b && list_any (nat_eq c) (codes "<&|")) h) [
  | inl w ↦ elim (or_cases (nat_eq b 61 && list_any (nat_eq c) (codes "+=!<>")) (nat_eq b 62 && list_any (nat_eq c) (codes "->")) w) [
    | inl v ↦ among no_word_byte c (codes "+=!<>") refl (and_both (nat_eq b 61) (list_any (nat_eq c) (codes "+=!<>")) v).1
    | inr v ↦ among no_word_byte c (codes "->") refl (and_both (nat_eq b 62) (list_any (nat_eq c) (codes "->")) v).1
  ]
  | inr w ↦ among no_word_byte c (codes "<&|") refl (and_both (nat_eq c b) (list_any (nat_eq c) (codes "<&|")) w).1
]

some_front : (c : ℕ) (cs : List ℕ) → is_one_sign c ≡ true → 0 < front_len (c ∷ cs)
unfolding front_len sign_len
some_front c cs h = by_word (begins_word c) refl (is_digit c) refl (is_pair_sign c (byte_at (c ∷ cs) 1))
  where
    by_word : (a : Bool) → begins_word c ≡ a → (b : Bool) → is_digit c ≡ b → (p : Bool) → 0 < cond a (prefix_len is_word_byte (c ∷ cs)) (cond b (number_len (c ∷ cs)) (cond p 2 (cond (is_one_sign c) 1 0)))
    by_word true e b f p = let first : is_word_byte c ≡ true = rw e refl in rw (run_some is_word_byte c cs first) (omega arith)
    by_word false e true f p = some_number c cs f
    by_word false e false f true = omega arith
    by_word false e false f false = rw h (omega arith)

front_word : (c : ℕ) (cs : List ℕ) → begins_word c ≡ true → front_len (c ∷ cs) ≡ prefix_len is_word_byte (c ∷ cs)
unfolding front_len
front_word c cs e = rw e refl

front_number : (c : ℕ) (cs : List ℕ) → is_digit c ≡ true → front_len (c ∷ cs) ≡ number_len (c ∷ cs)
unfolding front_len
front_number c cs e = rw (digit_no_word c e, e) refl

not_true : (x : Bool) → not x ≡ true → x ≡ false
not_true true g = absurd cc
not_true false g = refl

front_pair : (c b : ℕ) (rest : List ℕ) → is_pair_sign c b ≡ true → front_len (c ∷ b ∷ rest) ≡ 2
unfolding front_len sign_len no_word_byte
front_pair c b rest e =
    let r = and_both (not (begins_word c)) (not (is_digit c)) (pair_first c b e) in
    rw (not_true (begins_word c) r.0, not_true (is_digit c) r.1, e) refl

sign_bound : (c : ℕ) (ds after : List ℕ) → is_sign (c ∷ ds) ≡ true → length (c ∷ ds) ≤ front_len (c ∷ (ds ++ after))
sign_bound c [] after e = let lt = some_front c after e in omega (arith, lt)
sign_bound c (b ∷ []) after e = rw (front_pair c b after e) (omega arith)
sign_bound c (b ∷ d ∷ ds) after e = absurd cc

kind_bound : (c : ℕ) (ds after : List ℕ) → Kind c ds → length (c ∷ ds) ≤ front_len (c ∷ (ds ++ after))
kind_bound c ds after (AWord e g) = rw (front_word c (ds ++ after) e) (run_bound is_word_byte (c ∷ ds) after (and_true (is_word_byte c) (list_all is_word_byte ds) (rw e refl) g))
kind_bound c ds after (ANumber e) = rw (front_number c (ds ++ after) (digits_first c ds e).0) (number_bound c ds after e)
kind_bound c ds after (ALiteral e) = rw (front_number c (ds ++ after) (literal_first c ds e)) (literal_bound c ds after e)
kind_bound c ds after (ASign e) = sign_bound c ds after e

-- no lexeme at the front is longer
front_bound : (w after : List ℕ) → is_lexeme w ≡ true → length w ≤ front_len (w ++ after)
front_bound [] after h = omega arith
front_bound (c ∷ ds) after h = kind_bound c ds after (kind_of c ds h)

pub longest_front : (text : List ℕ) → front_len text ≤ length text → IsLongest (take (front_len text) text) (drop (front_len text) text)
longest_front text le more after e lt h =
    let w = take (front_len text) text ++ more in
    let whole : text ≡ w ++ after = sym (take-append-drop (front_len text) text) ∙ ap (λ (t : List ℕ). take (front_len text) text ++ t) e ∙ sym (append_assoc (take (front_len text) text) more after) in
    let bound : length w ≤ front_len text = subst (λ (t : List ℕ). length w ≤ front_len t) (sym whole) (front_bound w after h) in
    omega (arith, bound, length-append (take (front_len text) text) more, length-take (front_len text) text)

pub no_front : (text : List ℕ) → front_len text ≡ 0 → (l after : List ℕ) → text ≡ l ++ after → is_lexeme l ≡ true → ⊥
no_front text z l after e h =
    let bound : length l ≤ front_len text = subst (λ (t : List ℕ). length l ≤ front_len t) (sym e) (front_bound l after h) in
    omega (arith, bound, some_bytes l h)
