-- A text has one list of tokens, or one first fault.
use Rattle.std.proofs.Common.{◌≡◌, ◌↔◌, inl, inr, ℕ, ◌+◌, suc, Bool, true, false, not, List, [], ◌∷◌, ◌++◌, length, take, get_or, refl, sym, ◌∙◌, ap, subst, arith, one-add, zero-add, eqb, length-append}
use Rattle.std.proofs.lemmas.Bool.Decides.{nat_tests}
use Rattle.std.proofs.lemmas.List.{take_at, append_cancel_left}
use Rattle.ecd_lex.specs.declared.token.Token.{Token}
use Rattle.ecd_lex.specs.Characters.{is_blank, is_white, Each}
use Rattle.ecd_lex.specs.Scan.{gap_len}
use Rattle.ecd_lex.specs.Lexemes.{IsGap, IsComment, IsLineEnd, IsLastComment, IsTrailing, IsFront, TokenStands, Reads}
use Rattle.ecd_lex.proofs.Booleans.{tests, other_is}
use Rattle.ecd_lex.proofs.Errors.{differ}

-- ---- one token more

after : Bool → List Token → Bool
after follows [] = follows
after follows (token ∷ tokens) = true

after_true : (tokens : List Token) → after true tokens ≡ true
unfolding after
after_true [] = refl
after_true (token ∷ tokens) = refl

reads_push : (whole : ℕ) (follows : Bool) (text : List ℕ) (tokens : List Token) (rest : List ℕ) (token : Token) (more : List ℕ) →
    Reads whole follows text tokens rest → TokenStands whole (after follows tokens) rest token more → Reads whole follows text (tokens ++ token ∷ []) more
unfolding after
reads_push whole follows text [] rest token more r s = (more, subst (λ x. TokenStands whole follows x token more) (sym r) s, refl)
reads_push whole follows text (t ∷ tokens) rest token more (m, st, r) s =
    (m, st, reads_push whole true m tokens rest token more r (subst (λ b. TokenStands whole b rest token more) (sym (after_true tokens)) s))

not_nil : (t : Token) (tokens : List Token) → t ∷ tokens ≡ [] → ⊥
not_nil t tokens e = cc

after_is : (tokens : List Token) (empty : Bool) → ((empty ≡ true) ↔ (tokens ≡ [])) → not empty ≡ after false tokens
unfolding after
after_is [] true e = refl
after_is [] false e = absurd (differ false (e.1 refl) refl)
after_is (t ∷ tokens) true e = absurd (not_nil t tokens (e.0 refl))
after_is (t ∷ tokens) false e = refl

pub reads_step : (text : List ℕ) (tokens : List Token) (rest : List ℕ) (token : Token) (more : List ℕ) (empty : Bool) → Reads (length text) false text tokens rest → ((empty ≡ true) ↔ (tokens ≡ [])) →
    TokenStands (length text) (not empty) rest token more → Reads (length text) false text (tokens ++ token ∷ []) more
reads_step text tokens rest token more empty r e s = reads_push (length text) false text tokens rest token more r (subst (λ b. TokenStands (length text) b rest token more) (after_is tokens empty e) s)

-- ---- white space and comments go on as far as they can

white_next : (c next : ℕ) → is_blank c ≡ true → is_white c next ≡ true
unfolding is_white
white_next c next e = rw e refl

white_return : (c next : ℕ) → eqb c 13 ≡ true → next ≡ 10 → is_white c next ≡ true
unfolding is_white is_blank
white_return c next e f = grind (arith, nat_tests)

blank_other : (c : ℕ) → is_blank c ≡ true → eqb c 59 ≡ false
unfolding is_blank
blank_other c e = grind (arith, nat_tests)

return_other : (c : ℕ) → eqb c 13 ≡ true → eqb c 59 ≡ false
return_other c e = grind (arith, nat_tests)

len_comment : (c : ℕ) (text : List ℕ) → eqb c 59 ≡ true → gap_len false (c ∷ text) ≡ suc (gap_len true text)
unfolding gap_len
len_comment c text e = rw (e, one-add) refl

len_white : (c : ℕ) (text : List ℕ) → eqb c 59 ≡ false → is_white c (get_or text 0 0) ≡ true → gap_len false (c ∷ text) ≡ suc (gap_len false text)
unfolding gap_len
len_white c text e f = rw (e, f, one-add) refl

len_front : (c : ℕ) (text : List ℕ) → eqb c 59 ≡ false → is_white c (get_or text 0 0) ≡ false → gap_len false (c ∷ text) ≡ 0
unfolding gap_len
len_front c text e f = rw (e, f) refl

len_feed : (c : ℕ) (text : List ℕ) → eqb c 10 ≡ true → gap_len true (c ∷ text) ≡ suc (gap_len false text)
unfolding gap_len
len_feed c text e = rw (e, one-add) refl

len_inside : (c : ℕ) (text : List ℕ) → eqb c 10 ≡ false → gap_len true (c ∷ text) ≡ suc (gap_len true text)
unfolding gap_len
len_inside c text e = rw (e, one-add) refl

len_nil : (comment : Bool) → gap_len comment [] ≡ 0
unfolding gap_len
len_nil true = refl
len_nil false = refl

feed_blank : is_blank 10 ≡ true
unfolding is_blank
feed_blank = refl

mutual
  unfolding IsGap

  gap_then : (gap front : List ℕ) → IsGap gap → gap_len false (gap ++ front) ≡ length gap + gap_len false front
  gap_then [] front g = sym (zero-add (gap_len false front))
  gap_then (c ∷ gap) front g = elim (tests (eqb c 59)) as (λ _. gap_len false (c ∷ (gap ++ front)) ≡ suc (length gap) + gap_len false front) [
    | inl e ↦ (let k : IsComment gap = rw e at g in let h = comment_then gap front k in omega (arith, len_comment c (gap ++ front) e, h))
    | inr e ↦ elim (tests (eqb c 13)) as (λ _. gap_len false (c ∷ (gap ++ front)) ≡ suc (length gap) + gap_len false front) [
      | inl r ↦ (let k : IsLineEnd gap = rw (e, r) at g in let h = line_then c gap front r k in omega (arith, h))
      | inr r ↦ (let k : (is_blank c ≡ true) × IsGap gap = rw (e, r) at g in let h = gap_then gap front k.1 in omega (arith, len_white c (gap ++ front) e (white_next c (get_or (gap ++ front) 0 0) k.0), h))
    ]
  ]

  comment_then : (gap front : List ℕ) → IsComment gap → gap_len true (gap ++ front) ≡ length gap + gap_len false front
  comment_then [] front g = absurd g
  comment_then (c ∷ gap) front g = elim (tests (eqb c 10)) as (λ _. gap_len true (c ∷ (gap ++ front)) ≡ suc (length gap) + gap_len false front) [
    | inl e ↦ (let k : IsGap gap = rw e at g in let h = gap_then gap front k in omega (arith, len_feed c (gap ++ front) e, h))
    | inr e ↦ (let k : IsComment gap = rw e at g in let h = comment_then gap front k in omega (arith, len_inside c (gap ++ front) e, h))
  ]

  line_then : (c : ℕ) (gap front : List ℕ) → eqb c 13 ≡ true → IsLineEnd gap → gap_len false (c ∷ (gap ++ front)) ≡ suc (length gap) + gap_len false front
  line_then c [] front r g = absurd g
  line_then c (d ∷ gap) front r g =
      let h = gap_then gap front g.1 in
      let b : is_blank d ≡ true = ap is_blank g.0 ∙ feed_blank in
      omega (arith, len_white c (d ∷ (gap ++ front)) (return_other c r) (white_return c d r g.0), len_white d (gap ++ front) (blank_other d b) (white_next d (get_or (gap ++ front) 0 0) b), h)

front_then : (front : List ℕ) → IsFront front → gap_len false front ≡ 0
front_then [] f = absurd f
front_then (c ∷ front) f = len_front c front (other_is c 59 f.1) f.0

not_true : (b : Bool) → not b ≡ true → b ≡ false
not_true true e = cc
not_true false e = refl

same_test : (c : ℕ) → c ≡ 59 → eqb c 59 ≡ true
same_test c e = grind (arith, nat_tests)

inside_all : (text : List ℕ) → Each (λ d. not (eqb d 10)) text → gap_len true text ≡ length text
inside_all [] e = len_nil true
inside_all (c ∷ text) e = let h = inside_all text e.1 in omega (arith, len_inside c text (not_true (eqb c 10) e.0), h)

last_all : (comment : List ℕ) → IsLastComment comment → gap_len false comment ≡ length comment
last_all [] l = len_nil false
last_all (c ∷ comment) l = let h = inside_all comment l.1 in omega (arith, len_comment c comment (same_test c l.0), h)

trailing_all : (text : List ℕ) → IsTrailing text → gap_len false text ≡ length text
trailing_all text t =
    let h = gap_then t.gap t.comment t.blank in
    let k = last_all t.comment t.last in
    ap (gap_len false) t.is ∙ (let l = length-append t.gap t.comment in omega (arith, h, k, l, ap length t.is))

-- a gap is as long as another
pub same_gap : (g h a b : List ℕ) → IsGap g → IsGap h → IsFront a → IsFront b → g ++ a ≡ h ++ b → (g ≡ h) × (a ≡ b)
same_gap g h a b p q f k e =
    let x = gap_then g a p in
    let y = gap_then h b q in
    let n : length g ≡ length h = omega (arith, x, y, ap (gap_len false) e, front_then a f, front_then b k) in
    let s : g ≡ h = sym (take_at g a (length g) refl) ∙ (ap (take (length g)) e ∙ take_at h b (length g) (sym n)) in
    (s, append_cancel_left h a b (ap (λ x. x ++ a) (sym s) ∙ e))

pub no_front_trails : (text gap front : List ℕ) → IsTrailing text → text ≡ gap ++ front → IsGap gap → IsFront front → ⊥
no_front_trails text gap [] t e g f = f
no_front_trails text gap (c ∷ front) t e g f =
    let x = gap_then gap (c ∷ front) g in
    let y = trailing_all text t in
    omega (arith, x, y, ap (gap_len false) e, front_then (c ∷ front) f, ap length e, length-append gap (c ∷ front))
