-- How far the lexeme at the front of a text goes.
use Rattle.std.specs.Prelude.{ℕ, ◌+◌, ◌≡◌, ◌<◌, ◌≤◌, Bool, ◌&&◌, if◌then◌else◌, nat_eq, List, length, drop, codes}
use Rattle.std.specs.List.{prefix_len, list_any}
use Rattle.ecd_cast.specs.Lexemes.{is_blank, is_digit, begins_word, is_word_byte, is_one_sign, is_pair_sign}
use Rattle.ecd_text.specs.Bytes.{byte_at}
use Rattle.ecd_clex.specs.declared.token.Token.{Token}

abbrev pub is_bracket : ℕ → Bool
is_bracket c = list_any (nat_eq c) (codes "(){}[]")

unfoldable pub blanks_len : List ℕ → ℕ
blanks_len text = prefix_len is_blank text

-- digits without a leading 0
unfoldable pub digits_len : List ℕ → ℕ
digits_len text = if nat_eq (byte_at text 0) 48 then 1 else prefix_len is_digit text

unfoldable pub is_ull : List ℕ → Bool
is_ull text = nat_eq (byte_at text 0) 117 && nat_eq (byte_at text 1) 108 && nat_eq (byte_at text 2) 108

-- digits, and ull where it follows
unfoldable pub number_len : List ℕ → ℕ
number_len text = if is_ull (drop (digits_len text) text) then digits_len text + 3 else digits_len text

unfoldable pub sign_len : List ℕ → ℕ
sign_len text = if is_pair_sign (byte_at text 0) (byte_at text 1) then 2 else if is_one_sign (byte_at text 0) then 1 else 0

-- the length of the longest lexeme at the front of the text, or 0 where none stands there
unfoldable pub front_len : List ℕ → ℕ
front_len text = if begins_word (byte_at text 0) then prefix_len is_word_byte text else if is_digit (byte_at text 0) then number_len text else sign_len text

-- the token stands behind the blanks from the place on
pub record IsNext (text : List ℕ) (from : ℕ) (t : Token) : Type 0 where
  pub begins : t.at ≡ from + blanks_len (drop from text)
  pub ends : t.end ≡ t.at + front_len (drop t.at text)
  pub some : t.at < t.end
  pub within : t.end ≤ length text

-- nothing but blanks stands between the places, and no lexeme behind them
pub record IsLast (text : List ℕ) (from to : ℕ) : Type 0 where
  pub gap : to ≡ from + blanks_len (drop from text)
  pub none : front_len (drop to text) ≡ 0
  pub within : to ≤ length text
