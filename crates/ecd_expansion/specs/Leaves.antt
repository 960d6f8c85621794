-- What the forms without parts mean: values and `#` (RFC 8610, sections 2.2.1, 2.2.3, 3.1 and 3.6).
use Rattle.std.specs.Prelude.{ℕ, zero, suc, ◌==◌, ◌-◌, ◌^◌, ◌<◌, Bool, true, false, nat_lt, nat_le, if◌then◌else◌, List, [], ◌∷◌, Option, Some, None, ℤ, pos, negsuc}
use Rattle.ecd_lex.specs.declared.token.Bound.{Bound}
use Rattle.ecd_lex.specs.declared.token.Bound.TheVariants as bounds
use Rattle.ecd_syntax.specs.declared.tree.Literal.{Literal}
use Rattle.ecd_syntax.specs.declared.tree.Literal.TheVariants as literals
use Rattle.ecd_core.specs.declared.shape.Shape.{Shape}
use Rattle.ecd_core.specs.declared.shape.Kind.{Kind}
use Rattle.ecd_core.specs.declared.shape.Kind.TheVariants as k
use Rattle.ecd_core.specs.Nodes.{shape_at}
use Rattle.ecd_expansion.specs.declared.rule.ElabRule.TheVariants.{U1, U3, U4}
use Rattle.ecd_expansion.specs.Told.{Told, told, refused}

-- the greatest argument of a head
abbrev pub greatest_argument : ℕ
greatest_argument = 2 ^ 64 - 1

-- one alternative
abbrev pub gives : ℕ → Kind → Told (List Shape)
gives at kind = told (shape_at at kind ∷ [])

-- a number that a kind has, where it is in range
abbrev pub gives_within : ℕ → ℕ → Kind → Told (List Shape)
gives_within at number kind = if nat_le number greatest_argument then gives at kind else refused at U3

-- ---- values

-- an integer value is the integers from it to itself
abbrev pub integer_meaning : ℕ → ℤ → Told (List Shape)
integer_meaning at (pos n) = gives_within at n (k.Uint n n)
integer_meaning at (negsuc n) = gives_within at n (k.Nint n n)

abbrev pub literal_meaning : ℕ → Literal → Told (List Shape)
literal_meaning at (literals.Int (Some value)) = integer_meaning at value
literal_meaning at (literals.Int None) = refused at U3
literal_meaning at literals.Float = refused at U1
literal_meaning at (literals.Text bytes) = gives at (k.TextIs bytes)
literal_meaning at (literals.Bytes bytes) = gives at (k.BytesIs bytes)

-- ---- `#`

-- the kinds by their major types: `#0` to `#3` are whole, `#4` to `#7` hold any item of the major type
abbrev pub major_kind : ℕ → ℕ → Kind
major_kind depth zero = k.Uint 0 greatest_argument
major_kind depth (suc zero) = k.Nint 0 greatest_argument
major_kind depth (suc (suc zero)) = k.Bytes 0 greatest_argument
major_kind depth (suc (suc (suc zero))) = k.Text 0 greatest_argument
major_kind depth major = k.AnyOf major depth

abbrev pub major_meaning : ℕ → ℕ → ℕ → Told (List Shape)
major_meaning depth at major = if nat_le major 7 then gives at (major_kind depth major) else refused at U4

-- `#6.n` alone is a tag over any item
abbrev pub tag_meaning : ℕ → ℕ → ℕ → Told (List Shape)
tag_meaning depth at number = gives_within at number (k.Tag number (shape_at at (k.Any depth)))

-- `#7.n` is a simple value; those above 23 are not taken
abbrev pub simple_meaning : ℕ → ℕ → Told (List Shape)
simple_meaning at number = if nat_lt number 24 then gives at (k.Simple number) else refused at U4

-- a number behind the point has a meaning behind 6 and 7 alone
abbrev pub numbered_meaning : ℕ → ℕ → ℕ → ℕ → Told (List Shape)
numbered_meaning depth at major number = if major == 6 then tag_meaning depth at number else if major == 7 then simple_meaning at number else refused at U4

abbrev pub huge_meaning : ℕ → ℕ → Told (List Shape)
huge_meaning at major = if major == 6 then refused at U3 else refused at U4

abbrev pub hash_meaning : ℕ → ℕ → Option ℕ → Bound → Told (List Shape)
hash_meaning depth at None arg = gives at (k.Any depth)
hash_meaning depth at (Some major) bounds.Missing = major_meaning depth at major
hash_meaning depth at (Some major) (bounds.Is number) = numbered_meaning depth at major number
hash_meaning depth at (Some major) bounds.Huge = huge_meaning at major
