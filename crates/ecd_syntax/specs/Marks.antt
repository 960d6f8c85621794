-- What the grammar sees of a token.
use Rattle.std.specs.Prelude.{ℕ, Bool, true, false, not, ◌&&◌, List, [], ◌∷◌, Option, Some, None, nat_eq}
use Rattle.ecd_lex.specs.declared.token.Token.{Token}
use Rattle.ecd_lex.specs.declared.token.TokenKind.{TokenKind}
use Rattle.ecd_lex.specs.declared.token.TokenKind.TheVariants as kinds
use Rattle.ecd_lex.specs.declared.token.Bound.{Bound}
use Rattle.ecd_lex.specs.declared.token.Sign.{Sign}
use Rattle.ecd_lex.specs.declared.token.Sign.TheVariants as signs
use Rattle.ecd_syntax.specs.declared.tree.Name.{Name}
use Rattle.ecd_syntax.specs.declared.tree.Occur.{Occur}
use Rattle.ecd_syntax.specs.declared.tree.Literal.{Literal}
use Rattle.ecd_syntax.specs.declared.tree.Literal.TheVariants as literals
use Rattle.ecd_syntax.specs.declared.tree.Assign.{Assign}
use Rattle.ecd_syntax.specs.declared.tree.Assign.TheVariants as assigns
use Rattle.ecd_syntax.specs.declared.tree.OpKind.{OpKind}
use Rattle.ecd_syntax.specs.declared.tree.OpKind.TheVariants as operators

-- a token, and whether it opens a tag: a `(` that is glued to a `#6` opens a tag and nothing else
pub record Mark : Type 0 where
  pub at : ℕ
  pub kind : TokenKind
  pub opens_tag : Bool

-- `#6`, with a number or without
abbrev pub is_six : TokenKind → Bool
is_six (kinds.Hash (Some major) arg) = nat_eq major 6
is_six _ = false

abbrev pub is_open_paren : TokenKind → Bool
is_open_paren (kinds.Sign signs.OpenParen) = true
is_open_paren _ = false

-- the mark of a token that stands behind a `#6` or not
abbrev pub mark_behind : Bool → Token → Mark
mark_behind six t = record { at = t.at; kind = t.kind; opens_tag = six && t.glued && is_open_paren t.kind }

-- the marks of tokens, the first of which stands behind a `#6` or not
abbrev pub marks_behind : Bool → List Token → List Mark
marks_behind six [] = []
marks_behind six (t ∷ ts) = mark_behind six t ∷ marks_behind (is_six t.kind) ts

-- whether a `#6` stands before what follows the tokens
abbrev pub six_after : Bool → List Token → Bool
six_after six [] = six
six_after six (t ∷ ts) = six_after (is_six t.kind) ts

unfoldable pub marks : List Token → List Mark
marks ts = marks_behind false ts

-- the place of the first
abbrev pub place : List Mark → ℕ
place [] = 0
place (m ∷ ms) = m.at

-- ---- what a mark is: a table for each kind

abbrev pub name_in : ℕ → TokenKind → Option Name
name_in at (kinds.Name text) = Some record { at = at; text = text }
name_in at _ = None

abbrev pub name_of : Mark → Option Name
name_of m = name_in m.at m.kind

-- a value (RFC 8610, Appendix B)
abbrev pub literal_in : TokenKind → Option Literal
literal_in (kinds.Int n) = Some (literals.Int n)
literal_in kinds.Float = Some literals.Float
literal_in (kinds.Text bytes) = Some (literals.Text bytes)
literal_in (kinds.Bytes bytes) = Some (literals.Bytes bytes)
literal_in _ = None

abbrev pub literal_of : Mark → Option Literal
literal_of m = literal_in m.kind

abbrev pub occur_in : TokenKind → Option Occur
occur_in (kinds.Occur lo hi) = Some record { lo = lo; hi = hi }
occur_in _ = None

abbrev pub occur_of : Mark → Option Occur
occur_of m = occur_in m.kind

-- `#`, with its major type and its number
abbrev pub hash_in : TokenKind → Option (Option ℕ × Bound)
hash_in (kinds.Hash major arg) = Some (major, arg)
hash_in _ = None

abbrev pub hash_of : Mark → Option (Option ℕ × Bound)
hash_of m = hash_in m.kind

abbrev pub operator_in : ℕ → TokenKind → Option OpKind
operator_in at (kinds.Sign signs.RangeClosed) = Some operators.RangeClosed
operator_in at (kinds.Sign signs.RangeHalf) = Some operators.RangeHalf
operator_in at (kinds.Control text) = Some (operators.Control record { at = at; text = text })
operator_in at _ = None

abbrev pub at_place : ℕ → Option OpKind → Option (ℕ × OpKind)
at_place at None = None
at_place at (Some kind) = Some (at, kind)

-- an operator, with its place
abbrev pub operator_of : Mark → Option (ℕ × OpKind)
operator_of m = at_place m.at (operator_in m.at m.kind)

abbrev pub assign_in : TokenKind → Option Assign
assign_in (kinds.Sign signs.Define) = Some assigns.Define
assign_in (kinds.Sign signs.TypeMore) = Some assigns.TypeMore
assign_in (kinds.Sign signs.GroupMore) = Some assigns.GroupMore
assign_in _ = None

abbrev pub assign_of : Mark → Option Assign
assign_of m = assign_in m.kind

-- the signs by number, to tell one from another
abbrev pub number_of : Sign → ℕ
number_of signs.Define = 1
number_of signs.TypeMore = 2
number_of signs.GroupMore = 3
number_of signs.Slash = 4
number_of signs.DoubleSlash = 5
number_of signs.RangeClosed = 6
number_of signs.RangeHalf = 7
number_of signs.Arrow = 8
number_of signs.Caret = 9
number_of signs.Colon = 10
number_of signs.Comma = 11
number_of signs.Less = 12
number_of signs.Greater = 13
number_of signs.CloseParen = 14
number_of signs.CloseBracket = 15
number_of signs.CloseBrace = 16
number_of signs.OpenParen = 17
number_of signs.OpenBracket = 18
number_of signs.OpenBrace = 19
number_of signs.Tilde = 20
number_of signs.Ampersand = 21

abbrev pub is_sign : Sign → TokenKind → Bool
is_sign sign (kinds.Sign other) = nat_eq (number_of sign) (number_of other)
is_sign sign _ = false

abbrev pub said : Bool → Option (Unit {0})
said true = Some tt
said false = None

-- the mark is the sign, and does not open a tag
abbrev pub sign_of : Sign → Mark → Option (Unit {0})
sign_of sign m = said (not m.opens_tag && is_sign sign m.kind)

-- the mark opens a tag
abbrev pub tag_of : Mark → Option (Unit {0})
tag_of m = said (m.opens_tag && is_open_paren m.kind)
