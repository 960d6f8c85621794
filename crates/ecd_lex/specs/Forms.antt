-- The lexemes of a schema, each by its form (RFC 8610, Appendix B), as bytes.
use Rattle.std.specs.Prelude.{◌≡◌, ◌≢◌, ◌⊎◌, ℕ, ◌+◌, ◌*◌, ◌^◌, ◌≤◌, Bool, true, false, IsTrue, nat_lt, nat_le, ◌==◌, ◌&&◌, ◌||◌, if◌then◌else◌, List, [], ◌∷◌, ◌++◌, length, Option, Some, None, Result, Ok, Err, ℤ, pos, neg_ℤ}
use Rattle.std.specs.Bool.{MatchBool}
use Rattle.std.specs.Char.{encode_utf8}
use Rattle.ecd_lex.specs.declared.character.Radix.{Radix}
use Rattle.ecd_lex.specs.declared.character.Radix.TheVariants.{Decimal, Hexadecimal, Binary}
use Rattle.ecd_lex.specs.declared.token.Bound.{Bound}
use Rattle.ecd_lex.specs.declared.token.Bound.TheVariants.{Missing, Is, Huge}
use Rattle.ecd_lex.specs.declared.token.Sign.{Sign}
use Rattle.ecd_lex.specs.declared.token.Sign.TheVariants as signs
use Rattle.ecd_lex.specs.declared.token.TokenKind.{TokenKind}
use Rattle.ecd_lex.specs.declared.token.TokenKind.TheVariants as kinds
use Rattle.ecd_lex.specs.Characters.{is_decimal, is_name_start, is_name_byte, is_link, is_x, is_b, is_h, is_digit, leads_exponent, is_plus_or_minus, is_blank, digit_value, number_of, Each}

-- ---- names

-- *(*("-" / ".") (EALPHA / DIGIT)): each byte may stand in a name, or is a link with more of the name behind it
abbrev pub IsNameRest : List ℕ → Type 0
IsNameRest [] = Unit {0}
IsNameRest (c ∷ bytes) = (IsTrue (is_name_byte c) ⊎ (IsTrue (is_link c) × (bytes ≢ []))) × IsNameRest bytes

-- id = EALPHA *(*("-" / ".") (EALPHA / DIGIT))
abbrev pub IsName : List ℕ → Type 0
IsName [] = ⊥
IsName (c ∷ bytes) = IsTrue (is_name_start c) × IsNameRest bytes

-- ---- numbers

-- one or more digits
abbrev pub AreDigits : Radix → List ℕ → Type 0
AreDigits radix digits = (digits ≢ []) × Each (is_digit radix) digits

-- digits behind the mark of their radix: 0x, 0b, or none
abbrev pub IsMarked : Radix → List ℕ → List ℕ → Type 0
IsMarked Decimal digits bytes = bytes ≡ digits
IsMarked Hexadecimal digits bytes = (x : ℕ) × IsTrue (is_x x) × (bytes ≡ 48 ∷ x ∷ digits)
IsMarked Binary digits bytes = (b : ℕ) × IsTrue (is_b b) × (bytes ≡ 48 ∷ b ∷ digits)

-- a 0 and more decimal digits
abbrev pub LeadsWithZero : List ℕ → Type 0
LeadsWithZero [] = ⊥
LeadsWithZero (c ∷ []) = ⊥
LeadsWithZero (c ∷ d ∷ bytes) = (c ≡ 48) × IsTrue (is_decimal d)

-- uint = DIGIT1 *DIGIT / "0x" 1*HEXDIG / "0b" 1*BINDIG / "0", and its value
pub record IsUnsigned (bytes : List ℕ) (n : ℕ) : Type 0 where
  pub radix : Radix
  pub digits : List ℕ
  pub are : AreDigits radix digits
  pub marked : IsMarked radix digits bytes
  pub short : ¬ LeadsWithZero bytes
  pub value : n ≡ number_of radix digits

abbrev pub minus : Bool → List ℕ
minus true = 45 ∷ []
minus false = []

-- the value of an integer, where it is from -2^64 to 2^64 - 1
unfoldable pub int_of : Bool → ℕ → Option ℤ
int_of true n = if nat_le n (2 ^ 64) then Some (neg_ℤ (pos n)) else None
int_of false n = if nat_lt n (2 ^ 64) then Some (pos n) else None

-- int = ["-"] uint
pub record IsInteger (bytes : List ℕ) (value : Option ℤ) : Type 0 where
  pub negative : Bool
  pub number : List ℕ
  pub magnitude : ℕ
  pub is : bytes ≡ minus negative ++ number
  pub unsigned : IsUnsigned number magnitude
  pub counts : value ≡ int_of negative magnitude

-- "." fraction
abbrev pub IsFraction : Radix → List ℕ → Type 0
IsFraction radix bytes = (digits : List ℕ) × AreDigits radix digits × (bytes ≡ 46 ∷ digits)

abbrev pub IsSign : List ℕ → Type 0
IsSign [] = Unit {0}
IsSign (c ∷ []) = IsTrue (is_plus_or_minus c)
IsSign (c ∷ d ∷ bytes) = ⊥

-- "e" exponent, or "p" exponent behind hexadecimal digits
pub record IsExponent (radix : Radix) (bytes : List ℕ) : Type 0 where
  pub mark : ℕ
  pub sign : List ℕ
  pub digits : List ℕ
  pub leads : IsTrue (leads_exponent radix mark)
  pub signed : IsSign sign
  pub are : AreDigits Decimal digits
  pub is : bytes ≡ mark ∷ sign ++ digits

-- decimal digits go on by a fraction, an exponent or both, hexadecimal ones by an exponent with or without a fraction
abbrev pub IsEnough : Radix → (fraction exponent : List ℕ) → Type 0
IsEnough Decimal fraction exponent = (fraction ≢ []) ⊎ (exponent ≢ [])
IsEnough Hexadecimal fraction exponent = exponent ≢ []
IsEnough Binary fraction exponent = ⊥

-- what makes a number a float
pub record IsFloatTail (radix : Radix) (bytes : List ℕ) : Type 0 where
  pub fraction : List ℕ
  pub exponent : List ℕ
  pub is : bytes ≡ fraction ++ exponent
  pub first : (fraction ≡ []) ⊎ IsFraction radix fraction
  pub second : (exponent ≡ []) ⊎ IsExponent radix exponent
  pub enough : IsEnough radix fraction exponent

-- number = hexfloat / (int ["." fraction] ["e" exponent]), where it is no int
pub record IsFloat (bytes : List ℕ) : Type 0 where
  pub negative : Bool
  pub radix : Radix
  pub digits : List ℕ
  pub number : List ℕ
  pub tail : List ℕ
  pub are : AreDigits radix digits
  pub marked : IsMarked radix digits number
  pub goes_on : IsFloatTail radix tail
  pub is : bytes ≡ minus negative ++ (number ++ tail)

-- ---- occurrences and data items by major type

-- a number of 64 bits
unfoldable pub bound_of : ℕ → Bound
bound_of n = if nat_lt n (2 ^ 64) then Is n else Huge

-- [uint]
abbrev pub IsBound : List ℕ → Bound → Type 0
IsBound bytes bound = ((bytes ≡ []) × (bound ≡ Missing)) ⊎ ((n : ℕ) × IsUnsigned bytes n × (bound ≡ bound_of n))

-- [uint] "*" [uint]
pub record IsStar (bytes : List ℕ) (lo hi : Bound) : Type 0 where
  pub before : List ℕ
  pub behind : List ℕ
  pub is : bytes ≡ before ++ 42 ∷ behind
  pub low : IsBound before lo
  pub high : IsBound behind hi

-- occur = [uint] "*" [uint] / "+" / "?"
abbrev pub IsOccur : List ℕ → Bound → Bound → Type 0
IsOccur bytes lo hi =
    ((bytes ≡ 63 ∷ []) × (lo ≡ Is 0) × (hi ≡ Is 1)) ⊎ (((bytes ≡ 43 ∷ []) × (lo ≡ Is 1) × (hi ≡ Missing)) ⊎ IsStar bytes lo hi)

-- ["." uint]
abbrev pub IsArgument : List ℕ → Bound → Type 0
IsArgument bytes bound = ((bytes ≡ []) × (bound ≡ Missing)) ⊎ ((number : List ℕ) × (n : ℕ) × (bytes ≡ 46 ∷ number) × IsUnsigned number n × (bound ≡ bound_of n))

-- "#" [DIGIT ["." uint]]
abbrev pub IsHash : List ℕ → Option ℕ → Bound → Type 0
IsHash bytes major arg =
    ((bytes ≡ 35 ∷ []) × (major ≡ None) × (arg ≡ Missing))
    ⊎ ((digit : ℕ) × (argument : List ℕ) × (bytes ≡ 35 ∷ digit ∷ argument) × IsTrue (is_decimal digit) × (major ≡ Some (digit_value digit)) × IsArgument argument arg)

-- ---- strings

-- a character that may stand in a string: from 0x20 on
unfoldable pub is_character : ℕ → Bool
is_character c = nat_le 32 c

-- what stands between a string's quotes: characters, of which the quote only behind a backslash. (A character beyond
-- ASCII is bytes from 0x80 on.)
unfoldable mutual
  pub IsBody : (quote : ℕ) → List ℕ → Type 0
  IsBody quote [] = Unit {0}
  IsBody quote (c ∷ body) = IsTrue (is_character c) × (c ≢ quote) × MatchBool (c == 92) (IsEscapedBody quote body) (IsBody quote body)

  pub IsEscapedBody : (quote : ℕ) → List ℕ → Type 0
  IsEscapedBody quote [] = ⊥
  IsEscapedBody quote (c ∷ body) = IsTrue (is_character c) × IsBody quote body

-- what a backslash and this character stand for: \" \\ \/ \b \f \n \r \t, and \' where ' is the quote
unfoldable pub escape_of : (quote : ℕ) → ℕ → Option ℕ
escape_of quote c =
    if c == 34 || (c == 92 || c == 47) then Some c
    else (if c == 39 && quote == 39 then Some c
    else (if c == 98 then Some 8
    else (if c == 102 then Some 12
    else (if c == 110 then Some 10
    else (if c == 114 then Some 13
    else (if c == 116 then Some 9
    else None))))))

-- the number of four hexadecimal digits
abbrev pub unit_of : (a b c d : ℕ) → ℕ
unit_of a b c d = number_of Hexadecimal (a ∷ b ∷ c ∷ d ∷ [])

unfoldable pub are_hexadecimal : (a b c d : ℕ) → Bool
are_hexadecimal a b c d = is_digit Hexadecimal a && (is_digit Hexadecimal b && (is_digit Hexadecimal c && is_digit Hexadecimal d))

-- four hexadecimal digits of a character: no surrogate
unfoldable pub is_unit : (a b c d : ℕ) → Bool
is_unit a b c d = are_hexadecimal a b c d && (nat_lt (unit_of a b c d) 0xD800 || nat_lt 0xDFFF (unit_of a b c d))

-- what was read further on, behind bytes that came from this many bytes
abbrev pub with_front : List ℕ → ℕ → Result (List ℕ) ℕ → Result (List ℕ) ℕ
with_front front count (Ok bytes) = Ok (front ++ bytes)
with_front front count (Err offset) = Err (count + offset)

abbrev pub with_escape : Option ℕ → Result (List ℕ) ℕ → Result (List ℕ) ℕ
with_escape None rest = Err 0
with_escape (Some c) rest = with_front (c ∷ []) 2 rest

-- the bytes that a body stands for, or the offset of the first backslash that begins no escape
unfoldable mutual
  pub decoded : (quote : ℕ) → List ℕ → Result (List ℕ) ℕ
  decoded quote [] = Ok []
  decoded quote (c ∷ body) = if c == 92 then escaped quote body else with_front (c ∷ []) 1 (decoded quote body)

  -- behind a backslash
  pub escaped : (quote : ℕ) → List ℕ → Result (List ℕ) ℕ
  escaped quote [] = Err 0
  escaped quote (c ∷ body) = if c == 117 then coded quote body else with_escape (escape_of quote c) (decoded quote body)

  -- behind \u
  pub coded : (quote : ℕ) → List ℕ → Result (List ℕ) ℕ
  coded quote (a ∷ b ∷ c ∷ d ∷ body) = if is_unit a b c d then with_front (encode_utf8 (unit_of a b c d)) 6 (decoded quote body) else Err 0
  coded quote _ = Err 0

-- a string in quotes and the bytes that it stands for
pub record IsQuoted (quote : ℕ) (bytes chars : List ℕ) : Type 0 where
  pub body : List ℕ
  pub is : bytes ≡ quote ∷ body ++ quote ∷ []
  pub closed : IsBody quote body
  pub spells : decoded quote body ≡ Ok chars

-- a byte that may stand in a hexadecimal string: a character or white space
unfoldable pub is_hex_character : ℕ → Bool
is_hex_character c = is_character c || is_blank c

-- what stands between the quotes of a hexadecimal string: characters but the quote, and white space
unfoldable mutual
  pub IsHexBody : List ℕ → Type 0
  IsHexBody [] = Unit {0}
  IsHexBody (c ∷ body) = (c ≢ 39) × MatchBool (c == 13) (IsLineBody body) (IsTrue (is_hex_character c) × IsHexBody body)

  -- behind a carriage return
  pub IsLineBody : List ℕ → Type 0
  IsLineBody [] = ⊥
  IsLineBody (c ∷ body) = (c ≡ 10) × IsHexBody body

-- white space in a hexadecimal string, where a carriage return stands before a line feed
unfoldable pub is_hex_space : ℕ → Bool
is_hex_space c = is_blank c || c == 13

-- the bytes that pairs of hexadecimal digits spell behind the value of a first digit, white space passed over; or the
-- offset of the first byte that is neither, or of the end where a digit is left over
unfoldable pub hex_after : Option ℕ → List ℕ → Result (List ℕ) ℕ
hex_after None [] = Ok []
hex_after (Some first) [] = Err 0
hex_after None (c ∷ body) =
    if is_hex_space c then with_front [] 1 (hex_after None body)
    else (if is_digit Hexadecimal c then with_front [] 1 (hex_after (Some (digit_value c)) body)
    else Err 0)
hex_after (Some first) (c ∷ body) =
    if is_hex_space c then with_front [] 1 (hex_after (Some first) body)
    else (if is_digit Hexadecimal c then with_front ((16 * first + digit_value c) ∷ []) 1 (hex_after None body)
    else Err 0)

abbrev pub hex_decoded : List ℕ → Result (List ℕ) ℕ
hex_decoded body = hex_after None body

-- h'..' and its bytes
pub record IsHexString (bytes spelled : List ℕ) : Type 0 where
  pub mark : ℕ
  pub body : List ℕ
  pub marks : IsTrue (is_h mark)
  pub is : bytes ≡ mark ∷ 39 ∷ body ++ 39 ∷ []
  pub closed : IsHexBody body
  pub spells : hex_decoded body ≡ Ok spelled

-- ---- signs

abbrev pub sign_bytes : Sign → List ℕ
sign_bytes signs.Define = 61 ∷ []
sign_bytes signs.TypeMore = 47 ∷ 61 ∷ []
sign_bytes signs.GroupMore = 47 ∷ 47 ∷ 61 ∷ []
sign_bytes signs.Slash = 47 ∷ []
sign_bytes signs.DoubleSlash = 47 ∷ 47 ∷ []
sign_bytes signs.RangeClosed = 46 ∷ 46 ∷ []
sign_bytes signs.RangeHalf = 46 ∷ 46 ∷ 46 ∷ []
sign_bytes signs.Arrow = 61 ∷ 62 ∷ []
sign_bytes signs.Caret = 94 ∷ []
sign_bytes signs.Colon = 58 ∷ []
sign_bytes signs.Comma = 44 ∷ []
sign_bytes signs.Less = 60 ∷ []
sign_bytes signs.Greater = 62 ∷ []
sign_bytes signs.OpenParen = 40 ∷ []
sign_bytes signs.CloseParen = 41 ∷ []
sign_bytes signs.OpenBracket = 91 ∷ []
sign_bytes signs.CloseBracket = 93 ∷ []
sign_bytes signs.OpenBrace = 123 ∷ []
sign_bytes signs.CloseBrace = 125 ∷ []
sign_bytes signs.Tilde = 126 ∷ []
sign_bytes signs.Ampersand = 38 ∷ []

-- ---- the table

-- the bytes are a lexeme of this kind and value
unfoldable pub IsLexeme : TokenKind → List ℕ → Type 0
IsLexeme (kinds.Name name) bytes = IsName bytes × (name ≡ bytes)
IsLexeme (kinds.Int value) bytes = IsInteger bytes value
IsLexeme kinds.Float bytes = IsFloat bytes
IsLexeme (kinds.Occur lo hi) bytes = IsOccur bytes lo hi
IsLexeme (kinds.Text chars) bytes = IsQuoted 34 bytes chars
IsLexeme (kinds.Bytes spelled) bytes = IsQuoted 39 bytes spelled ⊎ IsHexString bytes spelled
IsLexeme (kinds.Hash major arg) bytes = IsHash bytes major arg
IsLexeme (kinds.Control name) bytes = IsName name × (bytes ≡ 46 ∷ name)
IsLexeme (kinds.Sign sign) bytes = bytes ≡ sign_bytes sign

-- no lexeme that the text begins with is longer
abbrev pub IsLongest : (text bytes : List ℕ) → Type 0
IsLongest text bytes = (kind : TokenKind) (other more : List ℕ) → IsLexeme kind other → text ≡ other ++ more → length other ≤ length bytes
