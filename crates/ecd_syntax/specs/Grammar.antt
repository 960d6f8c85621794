-- The grammar of schemas (RFC 8610, Appendix B, in the profile of docs/SCHEMA.md), as the lists of marks that spell each part of a tree.
use Rattle.std.specs.Prelude.{◌≡◌, ℕ, zero, suc, Bool, true, false, List, [], ◌∷◌, ◌++◌, ◌⊎◌, Option, Some, None}
use Rattle.ecd_lex.specs.declared.token.Token.{Token}
use Rattle.ecd_lex.specs.declared.token.Sign.{Sign}
use Rattle.ecd_lex.specs.declared.token.Sign.TheVariants as signs
use Rattle.ecd_syntax.specs.declared.tree.Alts.{Alts, out-Alts}
use Rattle.ecd_syntax.specs.declared.tree.Assign.{Assign}
use Rattle.ecd_syntax.specs.declared.tree.Assign.TheVariants.{Define, TypeMore, GroupMore}
use Rattle.ecd_syntax.specs.declared.tree.Entry.{Entry, out-Entry}
use Rattle.ecd_syntax.specs.declared.tree.Form.{Form, Form-F, out-Form}
use Rattle.ecd_syntax.specs.declared.tree.Form.TheOpen as forms
use Rattle.ecd_syntax.specs.declared.tree.GroupTree.{GroupTree, out-GroupTree}
use Rattle.ecd_syntax.specs.declared.tree.Key.{Key, Key-F, out-Key}
use Rattle.ecd_syntax.specs.declared.tree.Name.{Name}
use Rattle.ecd_syntax.specs.declared.tree.Occur.{Occur}
use Rattle.ecd_syntax.specs.declared.tree.Operation.{Operation, out-Operation}
use Rattle.ecd_syntax.specs.declared.tree.Rule.{Rule}
use Rattle.ecd_syntax.specs.declared.tree.Tree.{Tree}
use Rattle.ecd_syntax.specs.declared.tree.Type1.{Type1, out-Type1}
use Rattle.ecd_syntax.specs.declared.tree.Type2.{Type2, out-Type2}
use Rattle.ecd_syntax.specs.declared.tree.WayTree.{WayTree, out-WayTree}
use Rattle.ecd_syntax.specs.Marks.{Mark, marks, place, name_of, literal_of, occur_of, hash_of, operator_of, assign_of, sign_of, tag_of}

-- the marks that spell something
abbrev pub Spelling : Type 1
Spelling = List Mark → Type 0

-- no mark
abbrev pub Nothing : Spelling
Nothing ms = ms ≡ []

-- one mark, of which the table says this
pub record One {A : Type 0} (table : Mark → Option A) (x : A) (ms : List Mark) : Type 0 where
  pub mark : Mark
  pub alone : ms ≡ mark ∷ []
  pub is : table mark ≡ Some x

abbrev pub OneSign : Sign → Spelling
OneSign sign = One (sign_of sign) tt

-- the one and behind it the other
pub record Then (P Q : List Mark → Type 0) (ms : List Mark) : Type 0 where
  pub front : List Mark
  pub back : List Mark
  pub whole : ms ≡ front ++ back
  pub first : P front
  pub second : Q back

-- the first mark stands at the place
pub record At (at : ℕ) (P : List Mark → Type 0) (ms : List Mark) : Type 0 where
  pub starts : place ms ≡ at
  pub spells : P ms

-- each of a list, one behind the other
abbrev pub Each : {A : Type 0} → (A → Spelling) → List A → Spelling
Each one [] = Nothing
Each one (x ∷ xs) = Then (one x) (Each one xs)

-- one or more, with a sign between each two
abbrev pub Listed : {A : Type 0} → Sign → (A → Spelling) → List A → Spelling
Listed sign one [] ms = ⊥
Listed sign one (x ∷ xs) ms = Then (one x) (Each (λ y. Then (OneSign sign) (one y)) xs) ms

-- nothing, or one or more between `<` and `>`
abbrev pub Angled : {A : Type 0} → (A → Spelling) → List A → Spelling
Angled one [] = Nothing
Angled one (x ∷ xs) = Then (OneSign signs.Less) (Then (Listed signs.Comma one (x ∷ xs)) (OneSign signs.Greater))

abbrev pub TypeSpelled : (Type1 → Spelling) → Alts → Spelling
TypeSpelled one t = At (out-Alts t).at (Listed signs.Slash one (out-Alts t).choices)

abbrev pub OccurSpelled : Option Occur → Spelling
OccurSpelled None = Nothing
OccurSpelled (Some occur) = One occur_of occur

abbrev pub CutSpelled : Bool → Spelling
CutSpelled true = OneSign signs.Caret
CutSpelled false = Nothing

abbrev pub AKey : Type 0
AKey = Key-F Form Key Alts Entry GroupTree Operation Type1 Type2 WayTree

abbrev pub KeySpelled : (Type1 → Spelling) → AKey → Spelling
KeySpelled one forms.Missing = Nothing
KeySpelled one (forms.Arrow of cut) = Then (one of) (Then (CutSpelled cut) (OneSign signs.Arrow))
KeySpelled one (forms.Word name) = Then (One name_of name) (OneSign signs.Colon)
KeySpelled one (forms.Key::Lit at of) = Then (At at (One literal_of of)) (OneSign signs.Colon)

abbrev pub EntrySpelled : (Type1 → Spelling) → Entry → Spelling
EntrySpelled one e = At (out-Entry e).at (Then (OccurSpelled (out-Entry e).occur) (Then (KeySpelled one (out-Key (out-Entry e).key)) (TypeSpelled one (out-Entry e).body)))

-- with a comma behind it or not
abbrev pub MaybeComma : Spelling → Spelling
MaybeComma P ms = P ms ⊎ Then P (OneSign signs.Comma) ms

abbrev pub EntriesSpelled : (Type1 → Spelling) → List Entry → Spelling
EntriesSpelled one = Each (λ e. MaybeComma (EntrySpelled one e))

-- ways with `//` between each two, and the closing sign. A way's place is that of its first mark or of the one behind it
abbrev pub WaysSpelled : (Type1 → Spelling) → Sign → List WayTree → Spelling
WaysSpelled one close [] ms = ⊥
WaysSpelled one close (w ∷ []) ms = At (out-WayTree w).at (Then (EntriesSpelled one (out-WayTree w).entries) (OneSign close)) ms
WaysSpelled one close (w ∷ v ∷ ws) ms = At (out-WayTree w).at (Then (EntriesSpelled one (out-WayTree w).entries) (Then (OneSign signs.DoubleSlash) (WaysSpelled one close (v ∷ ws)))) ms

-- a group and the sign that closes it
abbrev pub GroupSpelled : (Type1 → Spelling) → Sign → GroupTree → Spelling
GroupSpelled one close g = At (out-GroupTree g).at (WaysSpelled one close (out-GroupTree g).ways)

abbrev pub AForm : Type 0
AForm = Form-F Form Key Alts Entry GroupTree Operation Type1 Type2 WayTree

abbrev pub NamedSpelled : (Type1 → Spelling) → Name → List Type1 → Spelling
NamedSpelled one name args = Then (One name_of name) (Angled one args)

abbrev pub FormSpelled : (Type1 → Spelling) → AForm → Spelling
FormSpelled one (forms.Form::Lit literal) = One literal_of literal
FormSpelled one (forms.Named name args) = NamedSpelled one name args
FormSpelled one (forms.Paren g) = Then (OneSign signs.OpenParen) (GroupSpelled one signs.CloseParen g)
FormSpelled one (forms.MapOf g) = Then (OneSign signs.OpenBrace) (GroupSpelled one signs.CloseBrace g)
FormSpelled one (forms.ArrayOf g) = Then (OneSign signs.OpenBracket) (GroupSpelled one signs.CloseBracket g)
FormSpelled one (forms.Unwrap name args) = Then (OneSign signs.Tilde) (NamedSpelled one name args)
FormSpelled one (forms.Enum g) = Then (OneSign signs.Ampersand) (Then (OneSign signs.OpenParen) (GroupSpelled one signs.CloseParen g))
FormSpelled one (forms.EnumName name args) = Then (OneSign signs.Ampersand) (NamedSpelled one name args)
FormSpelled one (forms.Tagged number body) = Then (One hash_of (Some 6, number)) (Then (One tag_of tt) (Then (TypeSpelled one body) (OneSign signs.CloseParen)))
FormSpelled one (forms.Hash major arg) = One hash_of (major, arg)

abbrev pub OperandSpelled : (Type1 → Spelling) → Type2 → Spelling
OperandSpelled one t = At (out-Type2 t).at (FormSpelled one (out-Form (out-Type2 t).form))

abbrev pub OperationSpelled : (Type1 → Spelling) → Option Operation → Spelling
OperationSpelled one None = Nothing
OperationSpelled one (Some o) = Then (One operator_of ((out-Operation o).at, (out-Operation o).kind)) (OperandSpelled one (out-Operation o).right)

abbrev pub ChoiceSpelled : (Type1 → Spelling) → Type1 → Spelling
ChoiceSpelled one t = At (out-Type1 t).at (Then (OperandSpelled one (out-Type1 t).left) (OperationSpelled one (out-Type1 t).op))

-- a choice of a type, inside which others stand no more than so deep inside each other
unfoldable pub ChoiceWithin : ℕ → Type1 → Spelling
ChoiceWithin zero = ChoiceSpelled (λ _ _. ⊥)
ChoiceWithin (suc n) = ChoiceSpelled (ChoiceWithin n)

-- an entry that is a type alone
pub record TypeAlone (one : Type1 → List Mark → Type 0) (e : Entry) (ms : List Mark) : Type 0 where
  pub occur : (out-Entry e).occur ≡ None
  pub key : out-Key (out-Entry e).key ≡ forms.Missing
  pub body : At (out-Entry e).at (TypeSpelled one (out-Entry e).body) ms

abbrev pub BodySpelled : (Type1 → Spelling) → Assign → Entry → Spelling
BodySpelled one Define = EntrySpelled one
BodySpelled one TypeMore = TypeAlone one
BodySpelled one GroupMore = EntrySpelled one

abbrev pub RuleSpelled : (Type1 → Spelling) → Rule → Spelling
RuleSpelled one r = At r.at (Then (One name_of r.name) (Then (Angled (One name_of) r.params) (Then (One assign_of r.assign) (BodySpelled one r.assign r.body))))

-- one rule or more
abbrev pub RulesSpelled : (Type1 → Spelling) → List Rule → Spelling
RulesSpelled one [] ms = ⊥
RulesSpelled one (r ∷ rs) ms = Each (RuleSpelled one) (r ∷ rs) ms

-- the tokens are a spelling of the tree
pub record Spells (tree : Tree) (tokens : List Token) : Type 0 where
  pub levels : ℕ
  pub spelled : RulesSpelled (ChoiceWithin levels) tree.rules (marks tokens)
