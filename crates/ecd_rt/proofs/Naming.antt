-- The names with a depth are names, and all different.
use Rattle.std.proofs.Common.{◌≡◌, ℕ, ◌<◌, ◌≤◌, ◌^◌, Bool, true, false, ◌||◌, List, [], ◌∷◌, refl, arith}
use Rattle.std.specs.Prelude.{codes, decimal, nat_eq, bytes_eq, ◌≢◌}
use Rattle.std.specs.List.{list_all}
use Rattle.std.specs.Str.Parse.{AllDigits}
use Rattle.std.proofs.lemmas.Fmt.{decimal_is_IsNumeral, decimal_injective}
use Rattle.std.proofs.lemmas.Str.Parse.{digit_at}
use Rattle.std.proofs.lemmas.Bool.{le-leb}
use Rattle.std.proofs.lemmas.Bool.Decides.{nat_tests}
use Rattle.std.proofs.lemmas.Slice.Eq.{bytes_eq-Decides}
use Rattle.ecd_cast.specs.Lexemes.{begins_word, is_digit, is_word_byte}
use Rattle.ecd_cast.specs.Spelling.{IsName}
use Rattle.ecd_rt.specs.Names.{any_name, items_name, pairs_name}

-- ---- digits

-- a depth that a number has 64 bits for
pub fits : (n : ℕ) → n ≤ 32 → n < 2 ^ 64
fits n le = omega arith

a_digit : (c : ℕ) (cs : List ℕ) → AllDigits 10 (c ∷ cs) → is_digit c ≡ true
a_digit c cs h = let r = digit_at (c ∷ cs) 0 h (omega arith) in rw (le-leb 48 c r.0, le-leb c 57 r.1) refl

word_byte : (c : ℕ) → is_digit c ≡ true → is_word_byte c ≡ true
word_byte c e = rw e (or_true (begins_word c))
  where
    or_true : (b : Bool) → (b || true) ≡ true
    or_true true = refl
    or_true false = refl

word_bytes : (ds : List ℕ) → AllDigits 10 ds → list_all is_word_byte ds ≡ true
word_bytes [] h = refl
word_bytes (d ∷ ds) h = rw (word_byte d (a_digit d ds h), word_bytes ds h.1) refl

decimal_word : (n : ℕ) → n ≤ 32 → list_all is_word_byte (decimal n) ≡ true
decimal_word n le = word_bytes (decimal n) (decimal_is_IsNumeral n (fits n le)).0.1

-- ---- names

pub any_is : (n : ℕ) → n ≤ 32 → IsName (any_name n)
unfolding any_name
any_is n le = rw (decimal_word n le) refl

pub items_is : (n : ℕ) → n ≤ 32 → IsName (items_name n)
unfolding items_name
items_is n le = rw (decimal_word n le) refl

pub pairs_is : (n : ℕ) → n ≤ 32 → IsName (pairs_name n)
unfolding pairs_name
pairs_is n le = rw (decimal_word n le) refl

-- ---- different

not_true : (b : Bool) → (b ≡ true → ⊥) → b ≡ false
not_true true h = absurd (h refl)
not_true false h = refl

other : (x y : List ℕ) → x ≢ y → bytes_eq x y ≡ false
other x y ne = not_true (bytes_eq x y) (λ e. ne ((bytes_eq-Decides x y).0 e))

other_decimal : (a b : ℕ) → a ≤ 32 → b ≤ 32 → a ≢ b → bytes_eq (decimal a) (decimal b) ≡ false
other_decimal a b p q ne = other (decimal a) (decimal b) (λ e. ne (decimal_injective a b (fits a p) (fits b q) e))

pub other_any : (a b : ℕ) → a ≤ 32 → b ≤ 32 → a ≢ b → bytes_eq (any_name a) (any_name b) ≡ false
unfolding any_name
other_any a b p q ne = rw (other_decimal a b p q ne) refl

pub other_items : (a b : ℕ) → a ≤ 32 → b ≤ 32 → a ≢ b → bytes_eq (items_name a) (items_name b) ≡ false
unfolding items_name
other_items a b p q ne = rw (other_decimal a b p q ne) refl

pub other_pairs : (a b : ℕ) → a ≤ 32 → b ≤ 32 → a ≢ b → bytes_eq (pairs_name a) (pairs_name b) ≡ false
unfolding pairs_name
other_pairs a b p q ne = rw (other_decimal a b p q ne) refl

pub items_any : (a b : ℕ) → bytes_eq (items_name a) (any_name b) ≡ false
unfolding items_name any_name
items_any a b = refl

pub items_pairs : (a b : ℕ) → bytes_eq (items_name a) (pairs_name b) ≡ false
unfolding items_name pairs_name
items_pairs a b = refl

pub pairs_any : (a b : ℕ) → bytes_eq (pairs_name a) (any_name b) ≡ false
unfolding pairs_name any_name
pairs_any a b = refl

pub pairs_items : (a b : ℕ) → bytes_eq (pairs_name a) (items_name b) ≡ false
unfolding pairs_name items_name
pairs_items a b = refl

pub any_items : (a b : ℕ) → bytes_eq (any_name a) (items_name b) ≡ false
unfolding any_name items_name
any_items a b = refl

pub any_pairs : (a b : ℕ) → bytes_eq (any_name a) (pairs_name b) ≡ false
unfolding any_name pairs_name
any_pairs a b = refl

-- a letter is no digit
letter_first : (c : ℕ) (cs ds : List ℕ) → AllDigits 10 ds → 57 < c → bytes_eq (c ∷ cs) ds ≡ false
letter_first c cs [] h lt = refl
letter_first c cs (d ∷ ds) h lt =
    let r = digit_at (d ∷ ds) 0 h (omega arith) in
    let apart : nat_eq c d ≡ false = grind (arith, nat_tests, r, lt) in
    rw apart refl

pub inside_items : (n : ℕ) → n ≤ 32 → bytes_eq (codes "items_inside") (items_name n) ≡ false
unfolding items_name
inside_items n le = rw (letter_first 105 (codes "nside") (decimal n) (decimal_is_IsNumeral n (fits n le)).0.1 (omega arith)) refl

first_letter : (c : ℕ) (cs ds : List ℕ) → AllDigits 10 ds → 57 < c → bytes_eq ds (c ∷ cs) ≡ false
first_letter c cs [] h lt = refl
first_letter c cs (d ∷ ds) h lt =
    let r = digit_at (d ∷ ds) 0 h (omega arith) in
    let apart : nat_eq d c ≡ false = grind (arith, nat_tests, r, lt) in
    rw apart refl

pub items_inside_not : (n : ℕ) → n ≤ 32 → bytes_eq (items_name n) (codes "items_inside") ≡ false
unfolding items_name
items_inside_not n le = rw (first_letter 105 (codes "nside") (decimal n) (decimal_is_IsNumeral n (fits n le)).0.1 (omega arith)) refl
