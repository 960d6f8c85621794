-- A text that grows lexeme by lexeme.
use Rattle.std.specs.Prelude.{ℕ, ◌-◌, ◌≡◌, Bool, true, false, ◌&&◌, ◌||◌, List, ◌++◌, length, slice_get, Option, Some, None}
use Rattle.std.specs.List.{list_all}
use Rattle.ecd_cast.specs.Spelling.{first_line}
use Rattle.ecd_cast.specs.Lexemes.{Lexeme, AreLexemes, Laid, is_word_byte, is_pair_sign, is_blank}

-- whether a lexeme that ends with a could go on with c
abbrev pub may_join : ℕ → ℕ → Bool
may_join a c = (is_word_byte a && is_word_byte c) || is_pair_sign a c

abbrev pub seam : Option ℕ → Option ℕ → Bool
seam (Some a) (Some c) = may_join a c
seam (Some a) None = false
seam None c = false

abbrev pub last_byte : List ℕ → Option ℕ
last_byte text = slice_get text (length text - 1)

abbrev pub first_byte : List ℕ → Option ℕ
first_byte text = slice_get text 0

-- behind the first line the text is these lexemes, whatever lexemes follow that do not join the last one
pub record Extends (ls : List Lexeme) (text : List ℕ) : Type 0 where
  pub body : List ℕ
  pub begins : text ≡ first_line ++ body
  pub more : (next : List Lexeme) (rest : List ℕ) → seam (last_byte text) (first_byte rest) ≡ false → Laid next rest → Laid (ls ++ next) (body ++ rest)

-- the text grew by these lexemes
pub record Grows (old new : List ℕ) (ls : List Lexeme) : Type 0 where
  pub goes_on : AreLexemes ls → (before : List Lexeme) → Extends before old → Extends (before ++ ls) new

-- white space that keeps a lexeme from joining the text before it
pub record IsGap (text lexeme gap : List ℕ) : Type 0 where
  pub blank : list_all is_blank gap ≡ true
  pub apart : seam (last_byte text) (first_byte (gap ++ lexeme)) ≡ false
