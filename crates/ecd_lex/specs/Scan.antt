-- What stands at the front of a text, as functions: the longest lexeme, or the fault there.
use Rattle.std.specs.Prelude.{◌≡◌, ℕ, ◌+◌, Bool, true, false, not, nat_lt, ◌==◌, ◌&&◌, if◌then◌else◌, List, [], ◌∷◌, take, drop, Option, Some, None, Result, Ok, Err}
use Rattle.std.specs.List.{prefix_len}
use Rattle.ecd_text.specs.Bytes.{byte_at}
use Rattle.ecd_lex.specs.declared.character.Radix.{Radix}
use Rattle.ecd_lex.specs.declared.character.Radix.TheVariants.{Decimal, Hexadecimal, Binary}
use Rattle.ecd_lex.specs.declared.token.Bound.{Bound}
use Rattle.ecd_lex.specs.declared.token.Bound.TheVariants.{Missing, Is}
use Rattle.ecd_lex.specs.declared.token.Sign.{Sign}
use Rattle.ecd_lex.specs.declared.token.Sign.TheVariants as signs
use Rattle.ecd_lex.specs.declared.token.TokenKind.{TokenKind}
use Rattle.ecd_lex.specs.declared.token.TokenKind.TheVariants as kinds
use Rattle.ecd_lex.specs.declared.number.Numeral.{Numeral}
use Rattle.ecd_lex.specs.declared.found.Found.{Found}
use Rattle.ecd_lex.specs.declared.found.Flaw.{Flaw}
use Rattle.ecd_lex.specs.declared.found.Flaw.TheVariants.{At, OutOfMemory}
use Rattle.ecd_lex.specs.declared.front.Opening.{Opening}
use Rattle.ecd_lex.specs.declared.front.Opening.TheVariants as opens
use Rattle.ecd_lex.specs.Characters.{is_white, is_decimal, is_name_start, is_name_byte, is_link, is_x, is_b, is_h, is_digit, leads_exponent, is_plus_or_minus, digit_value, number_of}
use Rattle.ecd_lex.specs.Forms.{int_of, bound_of, is_character, is_hex_character, with_front, decoded, hex_after, hex_decoded}

-- ---- names

-- how many bytes of a name go on
unfoldable pub name_rest : List ℕ → ℕ
name_rest [] = 0
name_rest (c ∷ text) =
    if is_name_byte c then 1 + name_rest text
    else (if is_link c && nat_lt 0 (name_rest text) then 1 + name_rest text
    else 0)

-- the name's length, behind its first byte
unfoldable pub name_found : List ℕ → Found
name_found text = record { end = 1 + name_rest (drop 1 text); kind = kinds.Name (take (1 + name_rest (drop 1 text)) text); number = None }

-- ---- numbers

unfoldable pub digits_len : Radix → List ℕ → ℕ
digits_len radix text = prefix_len (is_digit radix) text

-- behind a leading 0
unfoldable pub zero_numeral : List ℕ → Numeral
zero_numeral text =
    if is_x (byte_at text 0) && nat_lt 0 (digits_len Hexadecimal (drop 1 text)) then record { radix = Hexadecimal; mark = 2; digits = digits_len Hexadecimal (drop 1 text) }
    else (if is_b (byte_at text 0) && nat_lt 0 (digits_len Binary (drop 1 text)) then record { radix = Binary; mark = 2; digits = digits_len Binary (drop 1 text) }
    else record { radix = Decimal; mark = 0; digits = 1 })

-- the unsigned integer at the front, with no digits where there is none
unfoldable pub numeral_at : List ℕ → Numeral
numeral_at text =
    if byte_at text 0 == 48 then zero_numeral (drop 1 text)
    else record { radix = Decimal; mark = 0; digits = digits_len Decimal text }

abbrev pub numeral_len : Numeral → ℕ
numeral_len n = n.mark + n.digits

abbrev pub numeral_value : Numeral → List ℕ → ℕ
numeral_value n text = number_of n.radix (take n.digits (drop n.mark text))

unfoldable pub fraction_len : Radix → List ℕ → ℕ
fraction_len radix text =
    if byte_at text 0 == 46 && nat_lt 0 (digits_len radix (drop 1 text)) then 1 + digits_len radix (drop 1 text)
    else 0

-- a plus, a minus or neither
unfoldable pub sign_len : List ℕ → ℕ
sign_len text = if is_plus_or_minus (byte_at text 0) then 1 else 0

unfoldable pub power_len : List ℕ → ℕ
power_len text =
    if nat_lt 0 (digits_len Decimal (drop (sign_len text) text)) then sign_len text + digits_len Decimal (drop (sign_len text) text)
    else 0

unfoldable pub exponent_len : Radix → List ℕ → ℕ
exponent_len radix text =
    if leads_exponent radix (byte_at text 0) && nat_lt 0 (power_len (drop 1 text)) then 1 + power_len (drop 1 text)
    else 0

abbrev pub needs_exponent : Radix → Bool
needs_exponent Decimal = false
needs_exponent Hexadecimal = true
needs_exponent Binary = true

abbrev pub tail_from : Radix → (fraction exponent : ℕ) → ℕ
tail_from radix fraction exponent = if needs_exponent radix && exponent == 0 then 0 else fraction + exponent

-- what makes a number a float, or 0
unfoldable pub tail_len : Radix → List ℕ → ℕ
tail_len radix text = tail_from radix (fraction_len radix text) (exponent_len radix (drop (fraction_len radix text) text))

-- behind a star, which stands behind so many bytes
unfoldable pub star_found : Bound → ℕ → List ℕ → Found
star_found lo before text =
    if nat_lt 0 (numeral_at text).digits then record { end = before + 1 + numeral_len (numeral_at text); kind = kinds.Occur lo (bound_of (numeral_value (numeral_at text) text)); number = Some (before + 1) }
    else record { end = before + 1; kind = kinds.Occur lo Missing; number = None }

abbrev pub minus_len : Bool → ℕ
minus_len true = 1
minus_len false = 0

-- a number by its digits, behind its minus
unfoldable pub number_by : Bool → Numeral → List ℕ → Found
number_by negative n text =
    if nat_lt 0 (tail_len n.radix (drop (numeral_len n) text)) then record { end = minus_len negative + numeral_len n + tail_len n.radix (drop (numeral_len n) text); kind = kinds.Float; number = Some 0 }
    else (if not negative && byte_at text (numeral_len n) == 42 then star_found (bound_of (numeral_value n text)) (numeral_len n) (drop (numeral_len n + 1) text)
    else record { end = minus_len negative + numeral_len n; kind = kinds.Int (int_of negative (numeral_value n text)); number = Some 0 })

unfoldable pub number_found : Bool → List ℕ → Found
number_found negative text = number_by negative (numeral_at text) text

-- ---- data items by major type

-- behind the # and its digit
unfoldable pub argument_found : ℕ → List ℕ → Found
argument_found major text =
    if byte_at text 0 == 46 && nat_lt 0 (numeral_at (drop 1 text)).digits
    then record { end = 3 + numeral_len (numeral_at (drop 1 text)); kind = kinds.Hash (Some major) (bound_of (numeral_value (numeral_at (drop 1 text)) (drop 1 text))); number = Some 0 }
    else record { end = 2; kind = kinds.Hash (Some major) Missing; number = Some 0 }

-- behind the #
unfoldable pub hash_found : List ℕ → Found
hash_found text =
    if is_decimal (byte_at text 0) then argument_found (digit_value (byte_at text 0)) (drop 1 text)
    else record { end = 1; kind = kinds.Hash None Missing; number = Some 0 }

-- ---- signs

abbrev pub as_sign : Sign → ℕ → Option Found
as_sign sign end = Some (record { end = end; kind = kinds.Sign sign; number = None })

unfoldable pub bracket_sign : ℕ → Option Found
bracket_sign c =
    if c == 91 then as_sign signs.OpenBracket 1
    else (if c == 93 then as_sign signs.CloseBracket 1
    else (if c == 123 then as_sign signs.OpenBrace 1
    else (if c == 125 then as_sign signs.CloseBrace 1
    else (if c == 126 then as_sign signs.Tilde 1
    else (if c == 38 then as_sign signs.Ampersand 1
    else None)))))

-- a sign that begins no other
unfoldable pub lone_sign : ℕ → Option Found
lone_sign c =
    if c == 94 then as_sign signs.Caret 1
    else (if c == 58 then as_sign signs.Colon 1
    else (if c == 44 then as_sign signs.Comma 1
    else (if c == 60 then as_sign signs.Less 1
    else (if c == 62 then as_sign signs.Greater 1
    else (if c == 40 then as_sign signs.OpenParen 1
    else (if c == 41 then as_sign signs.CloseParen 1
    else bracket_sign c))))))

-- behind =
unfoldable pub define_sign : List ℕ → Option Found
define_sign text = if byte_at text 0 == 62 then as_sign signs.Arrow 2 else as_sign signs.Define 1

-- behind /
unfoldable pub slash_sign : List ℕ → Option Found
slash_sign text =
    if byte_at text 0 == 61 then as_sign signs.TypeMore 2
    else (if byte_at text 0 == 47 then (if byte_at text 1 == 61 then as_sign signs.GroupMore 3 else as_sign signs.DoubleSlash 2)
    else as_sign signs.Slash 1)

-- behind .
unfoldable pub dot_sign : List ℕ → Option Found
dot_sign text =
    if byte_at text 0 == 46 then (if byte_at text 1 == 46 then as_sign signs.RangeHalf 3 else as_sign signs.RangeClosed 2)
    else None

unfoldable pub sign_found : ℕ → List ℕ → Option Found
sign_found c text =
    if c == 61 then define_sign text
    else (if c == 47 then slash_sign text
    else lone_sign c)

-- ---- strings

abbrev pub more : ℕ → Option ℕ → Option ℕ
more count None = None
more count (Some n) = Some (count + n)

-- the length of a string's body, behind its quote; after a backslash the next character is no quote
unfoldable pub body_len : (quote : ℕ) → (escaped : Bool) → List ℕ → Option ℕ
body_len quote escaped [] = None
body_len quote escaped (c ∷ text) =
    if not (is_character c) then None
    else (if escaped then more 1 (body_len quote false text)
    else (if c == quote then Some 0
    else more 1 (body_len quote (c == 92) text)))

-- the length of a hexadecimal string's body; a carriage return stands before a line feed alone
unfoldable pub hex_len : (returned : Bool) → List ℕ → Option ℕ
hex_len returned [] = None
hex_len returned (c ∷ text) =
    if returned then (if c == 10 then more 1 (hex_len false text) else None)
    else (if c == 39 then Some 0
    else (if c == 13 then more 1 (hex_len true text)
    else (if is_hex_character c then more 1 (hex_len false text)
    else None)))

-- the fault: how far from the front, and the rule's number
abbrev pub Fault : Type 0
Fault = ℕ × ℕ

-- a fault inside a string, seen from its front
abbrev pub placed : (ahead rule : ℕ) → Result (List ℕ) ℕ → Result (List ℕ) Fault
placed ahead rule (Ok bytes) = Ok bytes
placed ahead rule (Err offset) = Err (ahead + offset, rule)

abbrev pub ending : (end : ℕ) → Result (List ℕ) Fault → Result (ℕ × List ℕ) Fault
ending end (Ok bytes) = Ok (end, bytes)
ending end (Err fault) = Err fault

abbrev pub quoted_by : (quote : ℕ) → List ℕ → Option ℕ → Result (ℕ × List ℕ) Fault
quoted_by quote text None = Err (0, 2)
quoted_by quote text (Some n) = ending (n + 2) (placed 1 3 (decoded quote (take n text)))

-- where a string ends and what it stands for, behind its quote
unfoldable pub quoted : (quote : ℕ) → List ℕ → Result (ℕ × List ℕ) Fault
quoted quote text = quoted_by quote text (body_len quote false text)

abbrev pub hex_by : List ℕ → Option ℕ → Result (ℕ × List ℕ) Fault
hex_by text None = Err (1, 2)
hex_by text (Some n) = ending (n + 3) (placed 2 5 (hex_decoded (take n text)))

-- the same of a hexadecimal string, behind h'
unfoldable pub hex_quoted : List ℕ → Result (ℕ × List ℕ) Fault
hex_quoted text = hex_by text (hex_len false text)

abbrev pub string_found : (List ℕ → TokenKind) → Result (ℕ × List ℕ) Fault → Result Found Fault
string_found kind (Ok found) = Ok (record { end = found.0; kind = kind found.1; number = None })
string_found kind (Err fault) = Err fault

-- ---- the front

abbrev pub follows : List ℕ → Found → Option ℕ → Result Found Fault
follows text found None = Ok found
follows text found (Some offset) = if is_name_byte (byte_at text found.end) then Err (offset, 4) else Ok found

-- a number that goes on is none
unfoldable pub ended : List ℕ → Found → Result Found Fault
ended text found = follows text found found.number

abbrev pub or_none : Option Found → Result Found Fault
or_none None = Err (0, 1)
or_none (Some found) = Ok found

-- a control operator or a sign, behind .
unfoldable pub dot_found : List ℕ → Result Found Fault
dot_found text =
    if is_name_start (byte_at text 0) then Ok (record { end = 2 + name_rest (drop 1 text); kind = kinds.Control (take (1 + name_rest (drop 1 text)) text); number = None })
    else or_none (dot_sign text)

unfoldable pub leads_with_zero : List ℕ → Bool
leads_with_zero text = byte_at text 0 == 48 && is_decimal (byte_at text 1)

unfoldable pub signed_found : Bool → List ℕ → Result Found Fault
signed_found negative number = if leads_with_zero number then Err (0, 4) else Ok (number_found negative number)

unfoldable pub minus_found : List ℕ → Result Found Fault
minus_found text = if is_decimal (byte_at text 1) then signed_found true (drop 1 text) else Err (0, 1)

abbrev pub occurrence : Bound → Bound → Found
occurrence lo hi = record { end = 1; kind = kinds.Occur lo hi; number = None }

unfoldable pub is_base64 : List ℕ → Bool
is_base64 text = (is_b (byte_at text 0) && byte_at text 1 == 54) && (byte_at text 2 == 52 && byte_at text 3 == 39)

-- a name, or a string behind its mark
unfoldable pub letter_found : List ℕ → Result Found Fault
letter_found text =
    if is_h (byte_at text 0) && byte_at text 1 == 39 then string_found kinds.Bytes (hex_quoted (drop 2 text))
    else (if is_base64 text then Err (0, 6)
    else Ok (name_found text))

unfoldable pub opening_of_mark : ℕ → Opening
opening_of_mark c =
    if c == 63 then opens.Question
    else (if c == 43 then opens.Plus
    else (if c == 42 then opens.Star
    else (if c == 35 then opens.Hash
    else (if c == 46 then opens.Dot
    else opens.Other))))

-- what a first byte opens
unfoldable pub opening_of : ℕ → Opening
opening_of c =
    if is_name_start c then opens.Letter
    else (if is_decimal c then opens.Digit
    else (if c == 45 then opens.Minus
    else (if c == 34 then opens.Quote
    else (if c == 39 then opens.Apostrophe
    else opening_of_mark c))))

abbrev pub found_by : Opening → List ℕ → Result Found Fault
found_by opens.Letter text = letter_found text
found_by opens.Digit text = signed_found false text
found_by opens.Minus text = minus_found text
found_by opens.Quote text = string_found kinds.Text (quoted 34 (drop 1 text))
found_by opens.Apostrophe text = string_found kinds.Bytes (quoted 39 (drop 1 text))
found_by opens.Question text = Ok (occurrence (Is 0) (Is 1))
found_by opens.Plus text = Ok (occurrence (Is 1) Missing)
found_by opens.Star text = Ok (star_found Missing 0 (drop 1 text))
found_by opens.Hash text = Ok (hash_found (drop 1 text))
found_by opens.Dot text = dot_found (drop 1 text)
found_by opens.Other text = or_none (sign_found (byte_at text 0) (drop 1 text))

-- what stands at the front of a text, were it not for a number that goes on
unfoldable pub candidate : List ℕ → Result Found Fault
candidate text = found_by (opening_of (byte_at text 0)) text

abbrev pub then_ended : List ℕ → Result Found Fault → Result Found Fault
then_ended text (Ok found) = ended text found
then_ended text (Err fault) = Err fault

-- the lexeme at the front of a text, or the fault there
unfoldable pub front_found : List ℕ → Result Found Fault
front_found text = then_ended text (candidate text)

-- ---- white space and comments

-- how many bytes of white space and comments a text begins with, or goes on with inside a comment
unfoldable pub gap_len : (comment : Bool) → List ℕ → ℕ
gap_len comment [] = 0
gap_len true (c ∷ text) = 1 + gap_len (not (c == 10)) text
gap_len false (c ∷ text) =
    if c == 59 then 1 + gap_len true text
    else (if is_white c (byte_at text 0) then 1 + gap_len false text
    else 0)

-- ---- what the code answers

-- what the code answers is what is there: a flaw is the fault there, or want of memory
abbrev pub Faults : {A : Type 0} → Flaw → Result A Fault → Type 0
Faults (At offset rule) found = found ≡ Err (offset, rule)
Faults OutOfMemory found = Unit {0}

abbrev pub Gives : {A : Type 0} → Result A Flaw → Result A Fault → Type 0
Gives (Ok x) is = is ≡ Ok x
Gives (Err flaw) is = Faults flaw is

-- the value of a hexadecimal digit
unfoldable pub hex_digit : ℕ → Option ℕ
hex_digit c = if is_digit Hexadecimal c then Some (digit_value c) else None

-- the body from a place on stands for what is new in the bytes, and then what it stands for from the end on
abbrev pub DecodesPiece : (quote : ℕ) (body : List ℕ) (start end : ℕ) (old new : List ℕ) → Type 0
DecodesPiece quote body start end old new = with_front old start (decoded quote (drop start body)) ≡ with_front new end (decoded quote (drop end body))

-- the same of a hexadecimal string, by the digits that are the first of their bytes
abbrev pub HexPiece : (body : List ℕ) (start : ℕ) (first next : Option ℕ) (old new : List ℕ) → Type 0
HexPiece body start first next old new = with_front old start (hex_after first (drop start body)) ≡ with_front new (start + 1) (hex_after next (drop (start + 1) body))
