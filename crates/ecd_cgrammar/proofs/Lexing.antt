-- A text has no more than one list of lexemes.
use Rattle.std.proofs.Common.{◌≡◌, ℕ, zero, suc, ◌<◌, ◌≤◌, ◌⊎◌, inl, inr, Bool, true, false, ◌||◌, ◌&&◌, List, [], ◌∷◌, ◌++◌, length, refl, ap, sym, ◌∙◌, subst, arith, append-nil}
use Rattle.std.specs.Prelude.{nat_eq}
use Rattle.std.specs.List.{list_all}
use Rattle.std.proofs.lemmas.Bool.{eqb-true}
use Rattle.std.proofs.lemmas.List.{length-append}
use Rattle.ecd_cast.specs.Lexemes.{Lexeme, AreLexemes, Laid, IsLongest, is_lexeme, is_blank}
use Rattle.ecd_cgrammar.specs.Faults.{Reaches, begins_blank}

-- ---- no lexeme begins with a blank

and_false : (b : Bool) → (b && false) ≡ false
and_false true = refl
and_false false = refl

or_both : (a b : Bool) → (a || b) ≡ true → (a ≡ true) ⊎ (b ≡ true)
or_both true b h = inl refl
or_both false b h = inr h

-- a lexeme as a blank and more
space_begins_none : (cs : List ℕ) → is_lexeme (32 ∷ cs) ≡ false
space_begins_none [] = refl
space_begins_none (d ∷ []) = rw (and_false (nat_eq d 61), and_false (nat_eq d 62), and_false (nat_eq 32 d)) refl
space_begins_none (d ∷ e ∷ cs) = refl

feed_begins_none : (cs : List ℕ) → is_lexeme (10 ∷ cs) ≡ false
feed_begins_none [] = refl
feed_begins_none (d ∷ []) = rw (and_false (nat_eq d 61), and_false (nat_eq d 62), and_false (nat_eq 10 d)) refl
feed_begins_none (d ∷ e ∷ cs) = refl

solid_byte : (c : ℕ) (cs : List ℕ) → is_lexeme (c ∷ cs) ≡ true → is_blank c ≡ false
solid_byte c cs h = by_test (is_blank c) refl
  where
    by_test : (b : Bool) → is_blank c ≡ b → b ≡ false
    by_test false e = refl
    by_test true e = absurd (elim (or_both (nat_eq c 32) (nat_eq c 10) e) [
      | inl w ↦ let same : c ≡ 32 = eqb-true c 32 w in let g : true ≡ false = sym h ∙ ap (λ (k : ℕ). is_lexeme (k ∷ cs)) same ∙ space_begins_none cs in cc
      | inr w ↦ let same : c ≡ 10 = eqb-true c 10 w in let g : true ≡ false = sym h ∙ ap (λ (k : ℕ). is_lexeme (k ∷ cs)) same ∙ feed_begins_none cs in cc
    ])

pub solid : (l rest : List ℕ) → is_lexeme l ≡ true → begins_blank (l ++ rest) ≡ false
solid [] rest h = absurd cc
solid (c ∷ cs) rest h = solid_byte c cs h

pub some_bytes : (l : List ℕ) → is_lexeme l ≡ true → 0 < length l
some_bytes [] h = absurd cc
some_bytes (c ∷ cs) h = omega arith

-- ---- one gap, one lexeme

all_first : (c : ℕ) (cs : List ℕ) → list_all is_blank (c ∷ cs) ≡ true → (is_blank c ≡ true) × (list_all is_blank cs ≡ true)
all_first c cs h = split (is_blank c) (list_all is_blank cs) h
  where
    split : (a b : Bool) → (a && b) ≡ true → (a ≡ true) × (b ≡ true)
    split true b h = (refl, h)
    split false b h = absurd cc

pub one_gap : (a b r s : List ℕ) → list_all is_blank a ≡ true → list_all is_blank b ≡ true → begins_blank r ≡ false → begins_blank s ≡ false → a ++ r ≡ b ++ s → r ≡ s
one_gap [] [] r s p q h k e = e
one_gap [] (c ∷ b) r s p q h k e = absurd (let g : true ≡ false = sym (all_first c b q).0 ∙ ap begins_blank (sym e) ∙ h in cc)
one_gap (c ∷ a) [] r s p q h k e = absurd (let g : true ≡ false = sym (all_first c a p).0 ∙ ap begins_blank e ∙ k in cc)
one_gap (c ∷ a) (d ∷ b) r s p q h k e = let tails : a ++ r ≡ b ++ s = cc in one_gap a b r s (all_first c a p).1 (all_first d b q).1 h k tails

-- of two fronts of one list the shorter begins the longer
pub prefix_of : {A : Type 0} (a b r s : List A) → a ++ r ≡ b ++ s → length a ≤ length b → (mid : List A) × (b ≡ a ++ mid) × (r ≡ mid ++ s)
prefix_of [] b r s e le = (b, refl, e)
prefix_of (x ∷ a) [] r s e le = absurd (omega arith)
prefix_of {A} (x ∷ a) (y ∷ b) r s e le =
    let head : x ≡ y = cc in
    let tails : a ++ r ≡ b ++ s = cc in
    let p = prefix_of a b r s tails (omega arith) in
    (p.0, rw head (ap (λ (ts : List A). y ∷ ts) p.1), p.2)

shorter_is : (l m a b : List ℕ) → is_lexeme m ≡ true → IsLongest l a → l ++ a ≡ m ++ b → length l ≤ length m → (l ≡ m) × (a ≡ b)
shorter_is l m a b h longest e le = at_mid (prefix_of l m a b e le)
  where
    at_mid : (mid : List ℕ) × (m ≡ l ++ mid) × (a ≡ mid ++ b) → (l ≡ m) × (a ≡ b)
    at_mid p = at_list p.0 p.1 p.2
      where
        at_list : (mid : List ℕ) → m ≡ l ++ mid → a ≡ mid ++ b → (l ≡ m) × (a ≡ b)
        at_list [] f g = (sym (f ∙ append-nil l), g)
        at_list (c ∷ mid) f g = absurd (longest (c ∷ mid) b g (omega arith) (ap is_lexeme (sym f) ∙ h))

pub one_longest : (l m a b : List ℕ) → is_lexeme l ≡ true → is_lexeme m ≡ true → IsLongest l a → IsLongest m b → l ++ a ≡ m ++ b → (l ≡ m) × (a ≡ b)
one_longest l m a b g h p q e = elim (either (length l) (length m)) [
  | inl le ↦ shorter_is l m a b h p e le
  | inr le ↦ let r = shorter_is m l b a g q (sym e) le in (sym r.0, sym r.1)
]
  where
    either : (x y : ℕ) → (x ≤ y) ⊎ (y ≤ x)
    either zero y = inl (omega arith)
    either (suc x) zero = inr (omega arith)
    either (suc x) (suc y) = elim (either x y) [ inl le ↦ inl (omega arith) | inr le ↦ inr (omega arith) ]

-- ---- two ways through one text

-- the second list goes on where the first one stops
pub record Ahead (ls : List Lexeme) (r : List ℕ) (ms : List Lexeme) : Type 0 where
  pub lexeme : Lexeme
  pub tail : List Lexeme
  pub behind : List ℕ
  pub longer : ms ≡ ls ++ lexeme ∷ tail
  pub front : r ≡ lexeme ++ behind
  pub known : is_lexeme lexeme ≡ true
  pub longest : IsLongest lexeme behind

pub data Compared (ls : List Lexeme) (r : List ℕ) (ms : List Lexeme) (s : List ℕ) : Type 0 where
  Together : ls ≡ ms → r ≡ s → Compared ls r ms s
  First : Ahead ls r ms → Compared ls r ms s
  Second : Ahead ms s ls → Compared ls r ms s

one_more : (l : Lexeme) (ls : List Lexeme) (r : List ℕ) (ms : List Lexeme) → Ahead ls r ms → Ahead (l ∷ ls) r (l ∷ ms)
one_more l ls r ms a = record { lexeme = a.lexeme; tail = a.tail; behind = a.behind; longer = ap (λ (t : List Lexeme). l ∷ t) a.longer; front = a.front; known = a.known; longest = a.longest }

pub compared : (ls ms : List Lexeme) (r s text : List ℕ) → AreLexemes ls → AreLexemes ms → begins_blank r ≡ false → begins_blank s ≡ false → Reaches ls r text → Reaches ms s text → Compared ls r ms s
compared [] [] r s text g h c d p q = Together refl (one_gap p.0 q.0 r s p.1 q.1 c d (sym p.2 ∙ q.2))
compared [] (m ∷ ms) r s text g h c d p q =
    let e : r ≡ m ++ q.1 = one_gap p.0 q.0 r (m ++ q.1) p.1 q.2 c (solid m q.1 h.0) (sym p.2 ∙ q.3) in
    First (record { lexeme = m; tail = ms; behind = q.1; longer = refl; front = e; known = h.0; longest = q.4 })
compared (l ∷ ls) [] r s text g h c d p q =
    let e : s ≡ l ++ p.1 = one_gap q.0 p.0 s (l ++ p.1) q.1 p.2 d (solid l p.1 g.0) (sym q.2 ∙ p.3) in
    Second (record { lexeme = l; tail = ls; behind = p.1; longer = refl; front = e; known = g.0; longest = p.4 })
compared (l ∷ ls) (m ∷ ms) r s text g h c d p q =
    let e : l ++ p.1 ≡ m ++ q.1 = one_gap p.0 q.0 (l ++ p.1) (m ++ q.1) p.2 q.2 (solid l p.1 g.0) (solid m q.1 h.0) (sym p.3 ∙ q.3) in
    let same = one_longest l m p.1 q.1 g.0 h.0 p.4 q.4 e in
    with_head l m ls ms r s same.0 (compared ls ms r s q.1 g.1 h.1 c d (subst (λ (t : List ℕ). Reaches ls r t) same.1 p.5) q.5)
  where
    with_head : (l m : Lexeme) (ls ms : List Lexeme) (r s : List ℕ) → l ≡ m → Compared ls r ms s → Compared (l ∷ ls) r (m ∷ ms) s
    with_head l m ls ms r s e (Together f k) = Together (rw (e, f) refl) k
    with_head l m ls ms r s e (First a) = First (rw e (one_more m ls r ms a))
    with_head l m ls ms r s e (Second a) = Second (rw e (one_more m ms s ls a))

-- ---- whole texts

pub laid_reaches : (ls : List Lexeme) (text : List ℕ) → Laid ls text → Reaches ls [] text
laid_reaches [] text h = (text, h, sym (append-nil text))
laid_reaches (l ∷ ls) text h = (h.0, h.1, h.2, h.3, h.4, laid_reaches ls h.1 h.5)

pub reaches_laid : (ls : List Lexeme) (text : List ℕ) → Reaches ls [] text → Laid ls text
reaches_laid [] text h = subst (λ (t : List ℕ). list_all is_blank t ≡ true) (sym (h.2 ∙ append-nil h.0)) h.1
reaches_laid (l ∷ ls) text h = (h.0, h.1, h.2, h.3, h.4, reaches_laid ls h.1 h.5)

not_ahead : (ls ms : List Lexeme) → Ahead ls [] ms → ⊥
not_ahead ls ms a = omega (arith, ap length a.front, length-append a.lexeme a.behind, some_bytes a.lexeme a.known)

pub one_laying : (ls ms : List Lexeme) (text : List ℕ) → AreLexemes ls → AreLexemes ms → Laid ls text → Laid ms text → ls ≡ ms
one_laying ls ms text g h p q = by_case (compared ls ms [] [] text g h refl refl (laid_reaches ls text p) (laid_reaches ms text q))
  where
    by_case : Compared ls [] ms [] → ls ≡ ms
    by_case (Together e f) = e
    by_case (First a) = absurd (not_ahead ls ms a)
    by_case (Second a) = absurd (not_ahead ms ls a)
