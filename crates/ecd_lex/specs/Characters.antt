-- The characters of a schema (RFC 8610, Appendix B), as bytes of UTF-8.
use Rattle.std.specs.Prelude.{ℕ, ◌+◌, ◌-◌, ◌*◌, Bool, false, ◌||◌, ◌&&◌, nat_le, ◌==◌, if◌then◌else◌, List, [], ◌∷◌, IsTrue}
use Rattle.ecd_lex.specs.declared.character.Radix.{Radix}
use Rattle.ecd_lex.specs.declared.character.Radix.TheVariants.{Decimal, Hexadecimal, Binary}

abbrev pub is_between : ℕ → ℕ → ℕ → Bool
is_between low high c = nat_le low c && nat_le c high

-- ALPHA
unfoldable pub is_letter : ℕ → Bool
is_letter c = is_between 65 90 c || is_between 97 122 c

-- DIGIT
unfoldable pub is_decimal : ℕ → Bool
is_decimal c = is_between 48 57 c

-- EALPHA: a letter, @, _ or $
unfoldable pub is_name_start : ℕ → Bool
is_name_start c = is_letter c || (c == 64 || (c == 95 || c == 36))

-- EALPHA or DIGIT
unfoldable pub is_name_byte : ℕ → Bool
is_name_byte c = is_name_start c || is_decimal c

-- - or .
unfoldable pub is_link : ℕ → Bool
is_link c = c == 45 || c == 46

-- a letter of a quoted string of Appendix B, which ignores case
abbrev pub is_either : ℕ → ℕ → ℕ → Bool
is_either capital small c = c == capital || c == small

unfoldable pub is_x : ℕ → Bool
is_x c = is_either 88 120 c

unfoldable pub is_b : ℕ → Bool
is_b c = is_either 66 98 c

unfoldable pub is_h : ℕ → Bool
is_h c = is_either 72 104 c

-- the digits of a radix
unfoldable pub is_digit : Radix → ℕ → Bool
is_digit Decimal c = is_decimal c
is_digit Hexadecimal c = is_decimal c || (is_between 65 70 c || is_between 97 102 c)
is_digit Binary c = is_between 48 49 c

-- what leads an exponent: e after decimal digits, p after hexadecimal ones
unfoldable pub leads_exponent : Radix → ℕ → Bool
leads_exponent Decimal c = is_either 69 101 c
leads_exponent Hexadecimal c = is_either 80 112 c
leads_exponent Binary c = false

unfoldable pub is_plus_or_minus : ℕ → Bool
is_plus_or_minus c = c == 43 || c == 45

-- space, tab and line feed
unfoldable pub is_blank : ℕ → Bool
is_blank c = c == 32 || (c == 9 || c == 10)

-- white space, by a byte and the one behind it: a carriage return is where it stands before a line feed
unfoldable pub is_white : (c next : ℕ) → Bool
is_white c next = is_blank c || (c == 13 && next == 10)

-- every byte passes the test
abbrev pub Each : (ℕ → Bool) → List ℕ → Type 0
Each p [] = Unit {0}
Each p (c ∷ bytes) = IsTrue (p c) × Each p bytes

-- what a digit counts
unfoldable pub digit_value : ℕ → ℕ
digit_value c = if nat_le c 57 then c - 48 else (if nat_le c 70 then c - 55 else c - 87)

unfoldable pub base_of : Radix → ℕ
base_of Decimal = 10
base_of Hexadecimal = 16
base_of Binary = 2

-- the number that digits spell behind a number that is spelled already
unfoldable pub number_after : Radix → ℕ → List ℕ → ℕ
number_after radix n [] = n
number_after radix n (c ∷ digits) = number_after radix (n * base_of radix + digit_value c) digits

-- the number that digits spell
abbrev pub number_of : Radix → List ℕ → ℕ
number_of radix digits = number_after radix 0 digits
