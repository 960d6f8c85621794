-- What the tables of lexemes say.
use Rattle.std.proofs.Common.{◌≡◌, ℕ, ◌-◌, ◌<◌, ◌≤◌, ◌^◌, ◌⊎◌, inl, inr, Bool, true, false, ◌&&◌, List, [], ◌∷◌, ◌++◌, length, take, drop, get_or, Option, Some, None, refl, ap, sym, ◌∙◌, subst, arith, rules}
use Rattle.std.specs.Prelude.{codes, decimal, nat_eq, nat_lt, not, bytes_eq}
use Rattle.std.specs.List.{list_all}
use Rattle.std.specs.Str.Parse.{digits_value}
use Rattle.std.proofs.lemmas.Fmt.{decimal_is_IsNumeral, decimal-digits_value}
use Rattle.std.proofs.lemmas.Str.Parse.{IsNumeralModel, numerals_by_value}
use Rattle.std.proofs.Math.Seq.{take-append_seam, drop-append_seam}
use Rattle.std.proofs.lemmas.Bool.Decides.{nat_tests}
use Rattle.std.proofs.lemmas.Bool.{lt-ltb, ltb-true}
use Rattle.std.proofs.lemmas.Slice.Eq.{bytes_eq-Decides}
use Rattle.std.proofs.lemmas.List.{length-append, take-append-drop}
use Rattle.ecd_cast.specs.declared.tree.Op.{Op}
use Rattle.ecd_cast.specs.declared.tree.Op.TheVariants.{Add, Sub, Mul, Shl, Shr, BitAnd, BitOr, Eq, Ne, Lt, Le, Gt, Ge, And, Or}
use Rattle.ecd_cast.specs.Lexemes.{Lexeme, is_name, is_word, is_digits, is_digit, begins_word}
use Rattle.ecd_cast.specs.Spelling.{sign, literal, IsName}
use Rattle.ecd_cgrammar.specs.Reading.{number_if, number_below, digits_if, literal_of, first_op, op_among, op_of, operators, same, said, name_of}
use Rattle.ecd_cast.proofs.Spelled.{decimal_digits}

and_both : (a b : Bool) → (a && b) ≡ true → (a ≡ true) × (b ≡ true)
and_both true b h = (refl, h)
and_both false b h = absurd cc

-- ---- numbers

pub own : IsNumeralModel (λ ds. list_all is_digit ds ≡ true) (digits_value 10)
own = numerals_by_value _ (search rules)

pub all_digits : (w : Lexeme) → is_digits w ≡ true → list_all is_digit w ≡ true
all_digits [] h = refl
all_digits (c ∷ []) h = rw h refl
all_digits (c ∷ d ∷ cs) h =
    let r = and_both (is_digit c && not (nat_eq c 48)) (list_all is_digit (d ∷ cs)) h in
    let s = and_both (is_digit c) (not (nat_eq c 48)) r.0 in
    rw (s.0, r.1) refl

some_digits : (w : Lexeme) → is_digits w ≡ true → 0 < length w
some_digits [] h = absurd cc
some_digits (c ∷ cs) h = omega arith

not_zero : (b : Bool) → not b ≡ true → b ≡ true → ⊥
not_zero true h e = cc
not_zero false h e = cc

no_leading_zero : (w : Lexeme) → is_digits w ≡ true → get_or w 0 0 ≡ 48 → length w ≡ 1
no_leading_zero [] h e = absurd cc
no_leading_zero (c ∷ []) h e = refl
no_leading_zero (c ∷ d ∷ cs) h e =
    let r = and_both (is_digit c && not (nat_eq c 48)) (list_all is_digit (d ∷ cs)) h in
    let s = and_both (is_digit c) (not (nat_eq c 48)) r.0 in
    absurd (not_zero (nat_eq c 48) s.1 (rw e refl))

-- digits are those that are written of their number
pub written : (w : Lexeme) → is_digits w ≡ true → digits_value 10 w < 2 ^ 64 → decimal (digits_value 10 w) ≡ w
written w h lt = decimal-digits_value own w (all_digits w h) (some_digits w h) (no_leading_zero w h) lt

number_some : (b : Bool) (n k : ℕ) → number_if b n ≡ Some k → (b ≡ true) × (n ≡ k)
number_some true n k h = let e : n ≡ k = cc in (refl, e)
number_some false n k h = absurd cc

pub number_is : (limit : ℕ) → limit ≤ 2 ^ 64 → (m : Lexeme) (n : ℕ) → number_below limit m ≡ Some n → (m ≡ decimal n) × (n < limit)
number_is limit le m n h =
    let r = number_some (is_digits m && nat_lt (digits_value 10 m) limit) (digits_value 10 m) n h in
    let s = and_both (is_digits m) (nat_lt (digits_value 10 m) limit) r.0 in
    let lt : digits_value 10 m < limit = ltb-true (digits_value 10 m) limit s.1 in
    let e : decimal (digits_value 10 m) ≡ m = written m s.0 (omega arith) in
    (sym e ∙ ap decimal r.1, subst (λ (k : ℕ). k < limit) r.1 lt)

pub number_read : (limit : ℕ) → limit ≤ 2 ^ 64 → (n : ℕ) → n < limit → number_below limit (decimal n) ≡ Some n
number_read limit le n lt =
    let same_value : digits_value 10 (decimal n) ≡ n = (decimal_is_IsNumeral n (omega arith)).1 in
    rw (decimal_digits n (omega arith), same_value, lt-ltb n limit lt) refl

-- ---- literals

digits_some : (b : Bool) (m : Lexeme) (n : ℕ) → digits_if b m ≡ Some n → (b ≡ true) × (number_below (2 ^ 64) m ≡ Some n)
digits_some true m n h = (refl, h)
digits_some false m n h = absurd cc

pub literal_is : (m : Lexeme) (n : ℕ) → literal_of m ≡ Some n → (m ≡ literal n) × (n < 2 ^ 64)
literal_is m n h =
    let at : ℕ = length m - 3 in
    let r = digits_some (bytes_eq (drop at m) (codes "ull")) (take at m) n h in
    let ull : drop at m ≡ codes "ull" = (bytes_eq-Decides (drop at m) (codes "ull")).0 r.0 in
    let s = number_is (2 ^ 64) (omega arith) (take at m) n r.1 in
    (sym (take-append-drop at m) ∙ rw (s.0, ull) refl, s.1)

front_of : (a b : Lexeme) → take (length (a ++ b) - length b) (a ++ b) ≡ a
front_of a b = let e : length (a ++ b) - length b ≡ length a = omega (arith, length-append a b) in rw e (take-append_seam a b)

back_of : (a b : Lexeme) → drop (length (a ++ b) - length b) (a ++ b) ≡ b
back_of a b = let e : length (a ++ b) - length b ≡ length a = omega (arith, length-append a b) in rw e (drop-append_seam a b)

pub literal_read : (n : ℕ) → n < 2 ^ 64 → literal_of (literal n) ≡ Some n
literal_read n lt = rw (front_of (decimal n) (codes "ull"), back_of (decimal n) (codes "ull")) (number_read (2 ^ 64) (omega arith) n lt)

-- a literal is no name
no_word : (w more : Lexeme) → is_digits w ≡ true → is_word (w ++ more) ≡ false
no_word [] more h = absurd cc
no_word (c ∷ cs) more h = rw (begins (and_both (is_digit c) (list_all is_digit cs) (all_digits (c ∷ cs) h)).0) refl
  where
    begins : is_digit c ≡ true → begins_word c ≡ false
    begins e = grind (arith, nat_tests, e)

pub literal_no_name : (n : ℕ) → n < 2 ^ 64 → name_of (literal n) ≡ None
literal_no_name n lt = rw (no_word (decimal n) (codes "ull") (decimal_digits n lt)) refl

-- ---- operators

first_some : (b : Bool) (op other : Op) (o : Option Op) → first_op b op o ≡ Some other → ((b ≡ true) × (op ≡ other)) ⊎ (o ≡ Some other)
first_some true op other o h = let e : op ≡ other = cc in inl (refl, e)
first_some false op other o h = inr h

among_is : (ops : List Op) (m : Lexeme) (op : Op) → op_among ops m ≡ Some op → m ≡ sign op
among_is [] m op h = absurd cc
among_is (o ∷ ops) m op h = elim (first_some (bytes_eq m (sign o)) o op (op_among ops m) h) [
  | inl w ↦ (bytes_eq-Decides m (sign o)).0 w.0 ∙ ap sign w.1
  | inr w ↦ among_is ops m op w
]

pub op_is : (m : Lexeme) (op : Op) → op_of m ≡ Some op → m ≡ sign op
op_is m op h = among_is operators m op h

pub op_read : (op : Op) → op_of (sign op) ≡ Some op
op_read Add = refl
op_read Sub = refl
op_read Mul = refl
op_read Shl = refl
op_read Shr = refl
op_read BitAnd = refl
op_read BitOr = refl
op_read Eq = refl
op_read Ne = refl
op_read Lt = refl
op_read Le = refl
op_read Gt = refl
op_read Ge = refl
op_read And = refl
op_read Or = refl

-- ---- this very lexeme

pub same_self : (l : Lexeme) → same l l ≡ Some tt
same_self l = ap said ((bytes_eq-Decides l l).1 refl)

-- a name is no lexeme that is not a name
pub name_not : (l x : Lexeme) → is_name l ≡ false → IsName x → same l x ≡ None
name_not l x e h = by_test (bytes_eq l x) refl
  where
    by_test : (b : Bool) → bytes_eq l x ≡ b → said b ≡ None
    by_test false i = refl
    by_test true i = let s : l ≡ x = (bytes_eq-Decides l x).0 i in absurd (let g : true ≡ false = sym h ∙ ap is_name (sym s) ∙ e in cc)

-- nor is a literal
pub literal_not : (l : Lexeme) (n : ℕ) → literal_of l ≡ None → n < 2 ^ 64 → same l (literal n) ≡ None
literal_not l n e lt = by_test (bytes_eq l (literal n)) refl
  where
    by_test : (b : Bool) → bytes_eq l (literal n) ≡ b → said b ≡ None
    by_test false i = refl
    by_test true i = let s : l ≡ literal n = (bytes_eq-Decides l (literal n)).0 i in absurd (let g : Some n ≡ None = sym (literal_read n lt) ∙ ap literal_of (sym s) ∙ e in cc)
