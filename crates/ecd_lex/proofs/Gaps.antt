-- How far white space and comments go.
use Rattle.std.proofs.Common.{◌≡◌, ◌⊎◌, ℕ, ◌≤◌, ◌<◌, suc, Bool, true, false, not, ◌&&◌, ◌||◌, List, [], ◌∷◌, ◌++◌, length, take, drop, get_or, refl, sym, ap, subst, inl, inr, eqb, arith, one-add}
use Rattle.std.specs.Bool.{MatchBool}
use Rattle.std.proofs.lemmas.Bool.Decides.{nat_tests, leb_tells}
use Rattle.std.proofs.lemmas.List.{drop_all}
use Rattle.ecd_lex.specs.Characters.{is_blank, is_white, Each}
use Rattle.ecd_lex.specs.Scan.{gap_len}
use Rattle.ecd_lex.specs.Lexemes.{IsGap, IsComment, IsLineEnd, IsLastComment, IsTrailing, IsFront}
use Rattle.ecd_lex.proofs.Booleans.{tests, is_same, is_other}

abbrev pub Split : (P Q : List ℕ → Type 0) → List ℕ → ℕ → Type 0
Split P Q text n = (P (take n text) × IsFront (drop n text)) ⊎ ((n ≡ length text) × Q text)

-- a text that ends inside a comment, or in white space and comments behind it
TrailsComment : List ℕ → Type 0
TrailsComment text = Each (λ d. not (eqb d 10)) text ⊎ ((gap : List ℕ) × (comment : List ℕ) × (text ≡ gap ++ comment) × IsComment gap × IsLastComment comment)

no_return : (c : ℕ) → is_blank c ≡ true → eqb c 13 ≡ false
unfolding is_blank
no_return c e = grind (arith, nat_tests)

no_comment : (c : ℕ) → is_blank c ≡ true → eqb c 59 ≡ false
unfolding is_blank
no_comment c e = grind (arith, nat_tests)

cases_white : (a b c : Bool) → (a || (b && c)) ≡ true → (a ≡ true) ⊎ ((a ≡ false) × (b ≡ true) × (c ≡ true))
cases_white true b c e = inl refl
cases_white false true true e = inr (refl, refl, refl)
cases_white false true false e = cc
cases_white false false c e = cc

white_kind : (c next : ℕ) → is_white c next ≡ true → (is_blank c ≡ true) ⊎ ((is_blank c ≡ false) × (eqb c 13 ≡ true) × (eqb next 10 ≡ true))
unfolding is_white
white_kind c next e = cases_white (is_blank c) (eqb c 13) (eqb next 10) e

-- a gap whose first byte is a line feed is the end of a line
line_from_gap : (text : List ℕ) → IsGap text → get_or text 0 0 ≡ 10 → IsLineEnd text
unfolding IsGap
line_from_gap [] g e = absurd (omega (arith, e))
line_from_gap (c ∷ text) g e = (e, (let h = subst (λ k. MatchBool (eqb k 59) (IsComment text) (MatchBool (eqb k 13) (IsLineEnd text) ((is_blank k ≡ true) × IsGap text))) e g in h.1))

gap_blank : (c : ℕ) (text : List ℕ) → is_blank c ≡ true → IsGap text → IsGap (c ∷ text)
unfolding IsGap
gap_blank c text e g = rw (no_comment c e, no_return c e) (e, g)

gap_return : (c : ℕ) (text : List ℕ) → eqb c 13 ≡ true → IsLineEnd text → IsGap (c ∷ text)
unfolding IsGap
gap_return c text e g = let d : eqb c 59 ≡ false = grind (arith, nat_tests) in rw (d, e) g

gap_comment : (c : ℕ) (text : List ℕ) → eqb c 59 ≡ true → IsComment text → IsGap (c ∷ text)
unfolding IsGap
gap_comment c text e g = rw e g

comment_end : (c : ℕ) (text : List ℕ) → eqb c 10 ≡ true → IsGap text → IsComment (c ∷ text)
unfolding IsGap
comment_end c text e g = rw e g

comment_on : (c : ℕ) (text : List ℕ) → eqb c 10 ≡ false → IsComment text → IsComment (c ∷ text)
unfolding IsGap
comment_on c text e g = rw e g

trailing_blank : (c : ℕ) (text : List ℕ) → is_blank c ≡ true → IsTrailing text → IsTrailing (c ∷ text)
trailing_blank c text e t = record { gap = c ∷ t.gap; comment = t.comment; is = ap (λ x. c ∷ x) t.is; blank = gap_blank c t.gap e t.blank; last = t.last }

line_of_trailing : (gap comment : List ℕ) → get_or (gap ++ comment) 0 0 ≡ 10 → IsGap gap → IsLastComment comment → IsLineEnd gap
line_of_trailing [] [] f g l = absurd (omega (arith, f))
line_of_trailing [] (c ∷ comment) f g l = absurd (omega (arith, f, l.0))
line_of_trailing (c ∷ gap) comment f g l = line_from_gap (c ∷ gap) g f

trailing_return : (c : ℕ) (text : List ℕ) → eqb c 13 ≡ true → get_or text 0 0 ≡ 10 → IsTrailing text → IsTrailing (c ∷ text)
trailing_return c text e f t =
    record { gap = c ∷ t.gap; comment = t.comment; is = ap (λ x. c ∷ x) t.is; blank = gap_return c t.gap e (line_of_trailing t.gap t.comment (subst (λ x. get_or x 0 0 ≡ 10) t.is f) t.blank t.last); last = t.last }

trailing_comment : (c : ℕ) (text : List ℕ) → eqb c 59 ≡ true → TrailsComment text → IsTrailing (c ∷ text)
unfolding TrailsComment
trailing_comment c text e (inl each) = record { gap = []; comment = c ∷ text; is = refl; blank = unfold IsGap in tt; last = (is_same c 59 e, each) }
trailing_comment c text e (inr (gap, comment, is, blank, last)) = record { gap = c ∷ gap; comment = comment; is = ap (λ x. c ∷ x) is; blank = gap_comment c gap e blank; last = last }

comment_trails_end : (c : ℕ) (text : List ℕ) → eqb c 10 ≡ true → IsTrailing text → TrailsComment (c ∷ text)
unfolding TrailsComment
comment_trails_end c text e t = inr (c ∷ t.gap, t.comment, ap (λ x. c ∷ x) t.is, comment_end c t.gap e t.blank, t.last)

comment_trails_on : (c : ℕ) (text : List ℕ) → eqb c 10 ≡ false → TrailsComment text → TrailsComment (c ∷ text)
unfolding TrailsComment
comment_trails_on c text e (inl each) = inl (ap not e, each)
comment_trails_on c text e (inr (gap, comment, is, blank, last)) = inr (c ∷ gap, comment, ap (λ x. c ∷ x) is, comment_on c gap e blank, last)

-- one more byte before a split
split_more : (P Q P' Q' : List ℕ → Type 0) (c : ℕ) (text : List ℕ) (n : ℕ) → (P (take n text) → P' (c ∷ take n text)) → (Q text → Q' (c ∷ text)) → Split P Q text n → Split P' Q' (c ∷ text) (suc n)
split_more P Q P' Q' c text n f g (inl s) = inl (f s.0, s.1)
split_more P Q P' Q' c text n f g (inr s) = inr (ap suc s.0, g s.1)

line_gap : (text : List ℕ) → get_or text 0 0 ≡ 10 → get_or (take (gap_len false text) text) 0 0 ≡ 10
unfolding gap_len is_white is_blank
line_gap [] e = absurd (omega (arith, e))
line_gap (c ∷ text) e = subst (λ k. get_or (take (gap_len false (k ∷ text)) (k ∷ text)) 0 0 ≡ 10) (sym e) (rw one-add refl)

gap_nil : IsGap []
unfolding IsGap
gap_nil = tt

trailing_nil : IsTrailing []
trailing_nil = record { gap = []; comment = []; is = refl; blank = gap_nil; last = tt }

comment_trails_nil : TrailsComment []
unfolding TrailsComment
comment_trails_nil = inl tt

mutual
  unfolding gap_len

  pub gap_split : (text : List ℕ) → Split IsGap IsTrailing text (gap_len false text)
  gap_split [] = inr (refl, trailing_nil)
  gap_split (c ∷ text) =
      elim (tests (eqb c 59)) as (λ _. Split IsGap IsTrailing (c ∷ text) (gap_len false (c ∷ text))) [
        | inl e ↦ rw (e, one-add) (split_more IsComment TrailsComment IsGap IsTrailing c text (gap_len true text) (gap_comment c (take (gap_len true text) text) e) (trailing_comment c text e) (comment_split text))
        | inr e ↦ elim (tests (is_white c (get_or text 0 0))) as (λ _. Split IsGap IsTrailing (c ∷ text) (gap_len false (c ∷ text))) [
          | inl w ↦ rw (e, w, one-add) (elim (white_kind c (get_or text 0 0) w) as (λ _. Split IsGap IsTrailing (c ∷ text) (suc (gap_len false text))) [
            | inl b ↦ split_more IsGap IsTrailing IsGap IsTrailing c text (gap_len false text) (gap_blank c (take (gap_len false text) text) b) (trailing_blank c text b) (gap_split text)
            | inr r ↦ (let f : get_or text 0 0 ≡ 10 = is_same (get_or text 0 0) 10 r.2 in
                split_more IsGap IsTrailing IsGap IsTrailing c text (gap_len false text) (λ g. gap_return c (take (gap_len false text) text) r.1 (line_from_gap (take (gap_len false text) text) g (line_gap text f))) (trailing_return c text r.1 f) (gap_split text))
          ])
          | inr w ↦ rw (e, w) (inl (gap_nil, (w, is_other c 59 e)))
        ]
      ]

  comment_split : (text : List ℕ) → Split IsComment TrailsComment text (gap_len true text)
  comment_split [] = inr (refl, comment_trails_nil)
  comment_split (c ∷ text) =
      elim (tests (eqb c 10)) as (λ _. Split IsComment TrailsComment (c ∷ text) (gap_len true (c ∷ text))) [
        | inl e ↦ rw (e, one-add) (split_more IsGap IsTrailing IsComment TrailsComment c text (gap_len false text) (comment_end c (take (gap_len false text) text) e) (comment_trails_end c text e) (gap_split text))
        | inr e ↦ rw (e, one-add) (split_more IsComment TrailsComment IsComment TrailsComment c text (gap_len true text) (comment_on c (take (gap_len true text) text) e) (comment_trails_on c text e) (comment_split text))
      ]

front_inside : (text : List ℕ) (n : ℕ) → IsFront (drop n text) → n < length text
front_inside text n f = elim (leb_tells (suc n) (length text)) as (λ _. n < length text) [
  | inl h ↦ h.1
  | inr h ↦ absurd (subst IsFront (drop_all n text (omega arith)) f)
]

pub gap_within : (text : List ℕ) → gap_len false text ≤ length text
gap_within text = elim (gap_split text) as (λ _. gap_len false text ≤ length text) [
  | inl s ↦ (let h = front_inside text (gap_len false text) s.1 in omega arith)
  | inr s ↦ omega arith
]

pub gap_end : (text : List ℕ) → drop (gap_len false text) text ≡ [] → IsTrailing text
gap_end text e = elim (gap_split text) as (λ _. IsTrailing text) [ inl s ↦ absurd (subst IsFront e s.1) | inr s ↦ s.1 ]

pub gap_front : (text : List ℕ) → 0 < length (drop (gap_len false text) text) → IsGap (take (gap_len false text) text) × IsFront (drop (gap_len false text) text)
gap_front text h = elim (gap_split text) as (λ _. IsGap (take (gap_len false text) text) × IsFront (drop (gap_len false text) text)) [
  | inl s ↦ s
  | inr s ↦ absurd (let d = drop_all (gap_len false text) text (omega arith) in omega (arith, ap length d))
]
