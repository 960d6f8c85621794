-- The rules X1 to X6 at the front of a text, where a lexeme has to stand, each by how far from the front it is broken.
use Rattle.std.specs.Prelude.{◌≡◌, ◌⊎◌, ℕ, ◌+◌, ◌<◌, Bool, not, ◌==◌, IsTrue, List, ◌∷◌, ◌++◌, length, Err}
use Rattle.std.specs.List.{prefix_len}
use Rattle.ecd_lex.specs.declared.token.TokenKind.{TokenKind}
use Rattle.ecd_lex.specs.declared.token.TokenKind.TheVariants as kinds
use Rattle.ecd_lex.specs.Characters.{is_name_byte, is_h, is_b}
use Rattle.ecd_lex.specs.Forms.{minus, LeadsWithZero, IsBody, decoded, IsHexBody, hex_decoded, IsLexeme, IsLongest}

abbrev pub IsQuote : ℕ → Type 0
IsQuote quote = (quote ≡ 34) ⊎ (quote ≡ 39)

-- X1: a byte that opens no string and begins no lexeme
pub record IsBadByte (text : List ℕ) (offset : ℕ) : Type 0 where
  pub front : offset ≡ 0
  pub plain : (quote : ℕ) (more : List ℕ) → IsQuote quote → text ≡ quote ∷ more → ⊥
  pub none : (kind : TokenKind) (bytes more : List ℕ) → IsLexeme kind bytes → text ≡ bytes ++ more → ⊥

-- X2: a quote whose string meets the end of the text, or a byte that may not stand in it, before another quote
pub record IsOpenQuote (text : List ℕ) (offset : ℕ) : Type 0 where
  pub quote : ℕ
  pub rest : List ℕ
  pub quotes : IsQuote quote
  pub is : text ≡ quote ∷ rest
  pub front : offset ≡ 0
  pub open_ : (body more : List ℕ) → IsBody quote body → rest ≡ body ++ quote ∷ more → ⊥

pub record IsOpenHex (text : List ℕ) (offset : ℕ) : Type 0 where
  pub mark : ℕ
  pub rest : List ℕ
  pub marks : IsTrue (is_h mark)
  pub is : text ≡ mark ∷ 39 ∷ rest
  pub behind : offset ≡ 1
  pub open_ : (body more : List ℕ) → IsHexBody body → rest ≡ body ++ 39 ∷ more → ⊥

abbrev pub IsOpenString : List ℕ → ℕ → Type 0
IsOpenString text offset = IsOpenQuote text offset ⊎ IsOpenHex text offset

-- X3: the first backslash of a string in quotes that begins no escape
pub record IsBadEscape (text : List ℕ) (offset : ℕ) : Type 0 where
  pub quote : ℕ
  pub body : List ℕ
  pub more : List ℕ
  pub at_ : ℕ
  pub quotes : IsQuote quote
  pub is : text ≡ quote ∷ body ++ quote ∷ more
  pub closed : IsBody quote body
  pub bad : decoded quote body ≡ Err at_
  pub behind : offset ≡ 1 + at_

-- a decimal number with a 0 before more digits
pub record IsPadded (text : List ℕ) : Type 0 where
  pub negative : Bool
  pub number : List ℕ
  pub is : text ≡ minus negative ++ number
  pub padded : LeadsWithZero number

abbrev pub is_no_star : ℕ → Bool
is_no_star c = not (c == 42)

-- where the number begins in which a lexeme ends: an integer, a float or a data item is one itself, and an occurrence
-- indicator ends in one where digits stand behind its star
abbrev pub EndsInNumber : TokenKind → List ℕ → ℕ → Type 0
EndsInNumber (kinds.Int value) bytes offset = offset ≡ 0
EndsInNumber kinds.Float bytes offset = offset ≡ 0
EndsInNumber (kinds.Hash major arg) bytes offset = offset ≡ 0
EndsInNumber (kinds.Occur lo hi) bytes offset = (offset ≡ prefix_len is_no_star bytes + 1) × (offset < length bytes)
EndsInNumber (kinds.Name name) bytes offset = ⊥
EndsInNumber (kinds.Text chars) bytes offset = ⊥
EndsInNumber (kinds.Bytes spelled) bytes offset = ⊥
EndsInNumber (kinds.Control name) bytes offset = ⊥
EndsInNumber (kinds.Sign sign) bytes offset = ⊥

-- a number that a byte of names directly follows, as the 0 of 0x without a digit
pub record GoesOn (text : List ℕ) (offset : ℕ) : Type 0 where
  pub kind : TokenKind
  pub bytes : List ℕ
  pub next : ℕ
  pub more : List ℕ
  pub is : text ≡ bytes ++ next ∷ more
  pub lexeme : IsLexeme kind bytes
  pub longest : IsLongest text bytes
  pub ends : EndsInNumber kind bytes offset
  pub goes_on : IsTrue (is_name_byte next)

-- X4: a number with a 0 too many, or else one that goes on
abbrev pub IsBadNumber : List ℕ → ℕ → Type 0
IsBadNumber text offset = (IsPadded text × (offset ≡ 0)) ⊎ (¬ IsPadded text × GoesOn text offset)

-- X5: in a hexadecimal string, the first byte that is neither a digit nor white space, or the closing quote where a digit
-- is left over
pub record IsBadHex (text : List ℕ) (offset : ℕ) : Type 0 where
  pub mark : ℕ
  pub body : List ℕ
  pub more : List ℕ
  pub at_ : ℕ
  pub marks : IsTrue (is_h mark)
  pub is : text ≡ mark ∷ 39 ∷ body ++ 39 ∷ more
  pub closed : IsHexBody body
  pub bad : hex_decoded body ≡ Err at_
  pub behind : offset ≡ 2 + at_

-- X6: b64'
pub record IsBase64 (text : List ℕ) (offset : ℕ) : Type 0 where
  pub mark : ℕ
  pub more : List ℕ
  pub marks : IsTrue (is_b mark)
  pub is : text ≡ mark ∷ 54 ∷ 52 ∷ 39 ∷ more
  pub front : offset ≡ 0

-- the rule of that number is broken so far from the front
abbrev pub Breaks : (text : List ℕ) (offset rule : ℕ) → Type 0
Breaks text offset rule =
    ((rule ≡ 1) × IsBadByte text offset)
    ⊎ (((rule ≡ 2) × IsOpenString text offset)
    ⊎ (((rule ≡ 3) × IsBadEscape text offset)
    ⊎ (((rule ≡ 4) × IsBadNumber text offset)
    ⊎ (((rule ≡ 5) × IsBadHex text offset)
    ⊎ ((rule ≡ 6) × IsBase64 text offset)))))
