-- The prelude (RFC 8610, Appendix D, without what holds floats), as the rules of a tree. A use's place stands for the places in it, so each of them is 0.
use Rattle.std.specs.Prelude.{ℕ, List, [], ◌∷◌, ◌++◌, Some, None, codes}
use Rattle.ecd_lex.specs.declared.token.Bound.TheVariants as bounds
use Rattle.ecd_syntax.specs.declared.tree.Alts.{Alts}
use Rattle.ecd_syntax.specs.declared.tree.Assign.TheVariants.{Define}
use Rattle.ecd_syntax.specs.declared.tree.Entry.{Entry}
use Rattle.ecd_syntax.specs.declared.tree.Form.{Form}
use Rattle.ecd_syntax.specs.declared.tree.Form.TheVariants as forms
use Rattle.ecd_syntax.specs.declared.tree.Key.TheVariants as keys
use Rattle.ecd_syntax.specs.declared.tree.Name.{Name}
use Rattle.ecd_syntax.specs.declared.tree.Rule.{Rule}
use Rattle.ecd_syntax.specs.declared.tree.Type1.{Type1}
use Rattle.ecd_syntax.specs.Reading.{alts_of, operand_of, choice_of, way_of, group_of, entry_of, rule_of}

-- ---- words for the forms that occur

abbrev pub name_of : List ℕ → Name
name_of text = record { at = 0; text = text }

-- a choice without an operator
abbrev pub choice : Form → Type1
choice form = choice_of 0 (operand_of 0 form) None

-- a type of one choice
abbrev pub only : Form → Alts
only form = alts_of 0 (choice form ∷ [])

-- `name = type`
abbrev pub defines : List ℕ → Alts → Rule
defines name body = rule_of 0 (name_of name) [] Define (entry_of 0 None keys.Missing body)

-- `#`
abbrev pub anything : Form
anything = forms.Hash None bounds.Missing

-- `#n`
abbrev pub major : ℕ → Form
major n = forms.Hash (Some n) bounds.Missing

-- `#7.n`
abbrev pub simple : ℕ → Form
simple n = forms.Hash (Some 7) (bounds.Is n)

-- a name without arguments
abbrev pub named : List ℕ → Form
named name = forms.Named (name_of name) []

-- `name / name`
abbrev pub either : List ℕ → List ℕ → Alts
either first second = alts_of 0 (choice (named first) ∷ choice (named second) ∷ [])

-- `#6.n(name)`
abbrev pub tag : ℕ → List ℕ → Form
tag n name = forms.Tagged (bounds.Is n) (only (named name))

-- `word: name`
abbrev pub member : List ℕ → List ℕ → Entry
member word name = entry_of 0 None (keys.Word (name_of word)) (only (named name))

-- `#6.n([entry, entry])`
abbrev pub tagged_pair : ℕ → Entry → Entry → Form
tagged_pair n first second = forms.Tagged (bounds.Is n) (only (forms.ArrayOf (group_of 0 (way_of 0 (first ∷ second ∷ []) ∷ []))))

-- ---- the table

-- the items of the major types 0 to 3
abbrev pub item_rules : List Rule
item_rules =
    defines (codes "any") (only anything) ∷
    defines (codes "uint") (only (major 0)) ∷
    defines (codes "nint") (only (major 1)) ∷
    defines (codes "int") (either (codes "uint") (codes "nint")) ∷
    defines (codes "bstr") (only (major 2)) ∷
    defines (codes "bytes") (only (named (codes "bstr"))) ∷
    defines (codes "tstr") (only (major 3)) ∷
    defines (codes "text") (only (named (codes "tstr"))) ∷ []

-- dates and numbers by tags
abbrev pub number_rules : List Rule
number_rules =
    defines (codes "tdate") (only (tag 0 (codes "tstr"))) ∷
    defines (codes "biguint") (only (tag 2 (codes "bstr"))) ∷
    defines (codes "bignint") (only (tag 3 (codes "bstr"))) ∷
    defines (codes "bigint") (either (codes "biguint") (codes "bignint")) ∷
    defines (codes "integer") (either (codes "int") (codes "bigint")) ∷
    defines (codes "unsigned") (either (codes "uint") (codes "biguint")) ∷
    defines (codes "decfrac") (only (tagged_pair 4 (member (codes "e10") (codes "int")) (member (codes "m") (codes "integer")))) ∷
    defines (codes "bigfloat") (only (tagged_pair 5 (member (codes "e2") (codes "int")) (member (codes "m") (codes "integer")))) ∷ []

-- what bytes and texts stand for, by tags
abbrev pub content_rules : List Rule
content_rules =
    defines (codes "eb64url") (only (tag 21 (codes "any"))) ∷
    defines (codes "eb64legacy") (only (tag 22 (codes "any"))) ∷
    defines (codes "eb16") (only (tag 23 (codes "any"))) ∷
    defines (codes "encoded-cbor") (only (tag 24 (codes "bstr"))) ∷
    defines (codes "uri") (only (tag 32 (codes "tstr"))) ∷
    defines (codes "b64url") (only (tag 33 (codes "tstr"))) ∷
    defines (codes "b64legacy") (only (tag 34 (codes "tstr"))) ∷
    defines (codes "regexp") (only (tag 35 (codes "tstr"))) ∷
    defines (codes "mime-message") (only (tag 36 (codes "tstr"))) ∷
    defines (codes "cbor-any") (only (tag 55799 (codes "any"))) ∷ []

-- simple values
abbrev pub simple_rules : List Rule
simple_rules =
    defines (codes "false") (only (simple 20)) ∷
    defines (codes "true") (only (simple 21)) ∷
    defines (codes "bool") (either (codes "false") (codes "true")) ∷
    defines (codes "nil") (only (simple 22)) ∷
    defines (codes "null") (only (named (codes "nil"))) ∷
    defines (codes "undefined") (only (simple 23)) ∷ []

abbrev pub prelude_rules : List Rule
prelude_rules = item_rules ++ number_rules ++ content_rules ++ simple_rules

-- the names of the prelude that stand for floats: types without a body
abbrev pub float_names : List (List ℕ)
float_names = codes "float16" ∷ codes "float32" ∷ codes "float64" ∷ codes "float16-32" ∷ codes "float32-64" ∷ codes "float" ∷ codes "number" ∷ codes "time" ∷ []
