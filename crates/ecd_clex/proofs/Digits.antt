-- The number of digits, one digit after the other.
use Rattle.std.proofs.Common.{◌≡◌, ℕ, ◌+◌, ◌-◌, ◌*◌, ◌≤◌, ◌<◌, true, List, length, take, get_or, ◌∙◌, arith}
use Rattle.std.specs.Char.{digit_value}
use Rattle.std.specs.Str.Parse.{digits_value}
use Rattle.std.proofs.lemmas.Int.Digits.{digits_value_more}
use Rattle.std.proofs.lemmas.Str.{digit_value_digit}
use Rattle.std.proofs.lemmas.Str.Parse.{digit_at, digits_value-take-le}
use Rattle.ecd_cast.specs.Lexemes.{is_digits}
use Rattle.ecd_cgrammar.proofs.Tables.{own, all_digits}

-- one digit more
pub one_digit : (ds : List ℕ) (i n : ℕ) → is_digits ds ≡ true → i < length ds → n ≡ digits_value 10 (take i ds) → digits_value 10 (take (i + 1) ds) ≡ n * 10 + (get_or ds i 0 - 48)
one_digit ds i n h lt e =
    let value : digit_value (get_or ds i 0) + 48 ≡ get_or ds i 0 = digit_value_digit (get_or ds i 0) (digit_at ds i (own.to ds (all_digits ds h)) lt) in
    let more = digits_value_more 10 ds i lt in
    more ∙ omega (arith, value, e)

-- the first digits are no more than all
pub no_more : (ds : List ℕ) (i : ℕ) → digits_value 10 (take i ds) ≤ digits_value 10 ds
no_more ds i = digits_value-take-le 10 ds i (omega arith)
