-- The lexemes of the C subset, and a text as lexemes with white space between them.
use Rattle.std.specs.Prelude.{ℕ, ◌≡◌, ◌<◌, Bool, true, false, not, ◌&&◌, ◌||◌, if◌then◌else◌, nat_le, nat_eq, List, [], ◌∷◌, ◌++◌, length, codes, bytes_eq}
use Rattle.std.specs.List.{list_all, list_any}

abbrev pub Lexeme : Type 0
Lexeme = List ℕ

-- space and line feed
abbrev pub is_blank : ℕ → Bool
is_blank c = nat_eq c 32 || nat_eq c 10

abbrev pub is_digit : ℕ → Bool
is_digit c = nat_le 48 c && nat_le c 57

-- a lower-case letter or _
abbrev pub begins_word : ℕ → Bool
begins_word c = (nat_le 97 c && nat_le c 122) || nat_eq c 95

abbrev pub is_word_byte : ℕ → Bool
is_word_byte c = begins_word c || is_digit c

-- a name or a reserved word
abbrev pub is_word : Lexeme → Bool
is_word [] = false
is_word (c ∷ cs) = begins_word c && list_all is_word_byte cs

abbrev pub reserved : List Lexeme
reserved =
    codes "if" ∷ codes "else" ∷ codes "for" ∷ codes "return" ∷ codes "struct" ∷ codes "const" ∷ codes "enum" ∷ codes "uint8_t" ∷ codes "uint64_t" ∷ codes "call_depth" ∷ []

abbrev pub is_reserved : Lexeme → Bool
is_reserved w = list_any (bytes_eq w) reserved

abbrev pub is_name : Lexeme → Bool
is_name w = is_word w && not (is_reserved w)

-- digits without a leading 0
abbrev pub is_digits : Lexeme → Bool
is_digits [] = false
is_digits (c ∷ []) = is_digit c
is_digits (c ∷ d ∷ cs) = is_digit c && not (nat_eq c 48) && list_all is_digit (d ∷ cs)

-- digits, or none, and then ull
abbrev pub digits_and_ull : Lexeme → Bool
digits_and_ull [] = false
digits_and_ull (c ∷ cs) = (is_digit c && digits_and_ull cs) || bytes_eq (c ∷ cs) (codes "ull")

-- digits without a leading 0, and then ull
abbrev pub is_literal : Lexeme → Bool
is_literal [] = false
is_literal (c ∷ cs) = if nat_eq c 48 then bytes_eq cs (codes "ull") else (is_digit c && digits_and_ull cs)

abbrev pub is_one_sign : ℕ → Bool
is_one_sign c = list_any (nat_eq c) (codes "(){}[];,=!+-*&|<>")

-- -> += << >> == != <= >= && ||
abbrev pub is_pair_sign : ℕ → ℕ → Bool
is_pair_sign a b =
    (nat_eq b 61 && list_any (nat_eq a) (codes "+=!<>")) || (nat_eq b 62 && list_any (nat_eq a) (codes "->")) || (nat_eq a b && list_any (nat_eq a) (codes "<&|"))

abbrev pub is_sign : Lexeme → Bool
is_sign [] = false
is_sign (a ∷ []) = is_one_sign a
is_sign (a ∷ b ∷ []) = is_pair_sign a b
is_sign (a ∷ b ∷ c ∷ cs) = false

abbrev pub is_lexeme : Lexeme → Bool
is_lexeme w = is_word w || is_digits w || is_literal w || is_sign w

-- each of them is a lexeme
abbrev pub AreLexemes : List Lexeme → Type 0
AreLexemes [] = Unit {0}
AreLexemes (l ∷ ls) = (is_lexeme l ≡ true) × AreLexemes ls

-- no longer lexeme stands at the place
abbrev pub IsLongest : Lexeme → List ℕ → Type 0
IsLongest l rest = (more after : List ℕ) → rest ≡ more ++ after → 0 < length more → is_lexeme (l ++ more) ≡ true → ⊥

-- the text is these lexemes in turn, each the longest at its place, with any blanks before, between and behind them
abbrev pub Laid : List Lexeme → List ℕ → Type 0
Laid [] text = list_all is_blank text ≡ true
Laid (l ∷ ls) text = (blanks : List ℕ) × (rest : List ℕ) × (list_all is_blank blanks ≡ true) × (text ≡ blanks ++ (l ++ rest)) × IsLongest l rest × Laid ls rest
