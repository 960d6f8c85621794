-- What the first tokens of an operand or of an entry lead to.
use Rattle.std.specs.Prelude.{ℕ, List, drop, Bool, Option, Result}
use Rattle.ecd_lex.specs.declared.token.Sign.{Sign}
use Rattle.ecd_lex.specs.declared.token.Sign.TheVariants as signs
use Rattle.ecd_syntax.specs.declared.tree.Form.{Form}
use Rattle.ecd_syntax.specs.declared.tree.Form.TheVariants as forms
use Rattle.ecd_syntax.specs.declared.tree.GroupTree.{GroupTree}
use Rattle.ecd_syntax.specs.declared.tree.Key.{Key}
use Rattle.ecd_syntax.specs.declared.tree.Key.TheVariants as keys
use Rattle.ecd_syntax.specs.declared.tree.Name.{Name}
use Rattle.ecd_syntax.specs.declared.tree.Type1.{Type1}
use Rattle.ecd_syntax.specs.Marks.{Mark, sign_of}
use Rattle.ecd_syntax.specs.Reading.{Reader, ◌>>=◌, taken, token, listed, made, tag_at, group_at, body_at, body_behind, open_body, behind_choice, more_listed, alts_of}
use Rattle.ecd_parse.specs.Reads.{Leads, LeadsOr}
use Rattle.ecd_parse.specs.declared.cursor.Halt.{Halt}
use Rattle.ecd_parse.specs.declared.opening.Opening.{Opening}
use Rattle.ecd_parse.specs.declared.opening.Opening.TheVariants as opens
use Rattle.ecd_parse.specs.declared.opening.NameKind.{NameKind}
use Rattle.ecd_parse.specs.declared.opening.NameKind.TheVariants as names
use Rattle.ecd_parse.specs.declared.opening.GroupKind.{GroupKind}
use Rattle.ecd_parse.specs.declared.opening.GroupKind.TheVariants as groups

abbrev pub named_form : NameKind → Name → List Type1 → Form
named_form names.Plain = forms.Named
named_form names.Unwrap = forms.Unwrap
named_form names.Enum = forms.EnumName

abbrev pub close_of : GroupKind → Sign
close_of groups.Paren = signs.CloseParen
close_of groups.Map = signs.CloseBrace
close_of groups.Array = signs.CloseBracket
close_of groups.Enum = signs.CloseParen

abbrev pub group_form : GroupKind → GroupTree → Form
group_form groups.Paren = forms.Paren
group_form groups.Map = forms.MapOf
group_form groups.Array = forms.ArrayOf
group_form groups.Enum = forms.Enum

-- generic arguments behind their `<`
abbrev pub arguments : Reader Type1 → Reader (List Type1)
arguments one ms = listed signs.Comma one ms >>= λ xs. token (sign_of signs.Greater) xs.rest >>= λ e. taken xs.value e.rest

-- what is read behind an opening
abbrev pub behind_opening : Reader Type1 → Opening → Reader Form
behind_opening one (opens.Whole form) = taken form
behind_opening one (opens.Args kind name) = made (named_form kind name) (arguments one)
behind_opening one (opens.Tag number) = tag_at one number
behind_opening one (opens.Group kind) = made (group_form kind) (group_at one (close_of kind))

-- whatever a choice of a type is read by: the opening leads to the form
abbrev pub Opens : List Mark → Result (Opening × ℕ) Halt → (Reader Type1 → Reader Form) → ℕ → Type 0
Opens ms result form at = (one : Reader Type1) → Leads ms result (behind_opening one) (form one (drop at ms))

-- a key before `:` leads to the body of an entry, which has else no such key
abbrev pub Keyed : List Mark → Result (Option (Key × ℕ)) Halt → ℕ → Type 0
Keyed ms result at = (one : Reader Type1) → LeadsOr ms result (body_behind one) (open_body one (drop at ms)) (body_at one (drop at ms))

-- the arrow behind a choice, with a cut or not, makes the choice a key; with none the choices go on
abbrev pub Arrows : List Mark → Result (Option (Bool × ℕ)) Halt → ℕ → Type 0
Arrows ms result at = (one : Reader Type1) (start : ℕ) (first : Type1) →
    LeadsOr ms result (λ cut. body_behind one (keys.Arrow first cut)) (made (λ choices. (keys.Missing, alts_of start choices)) (more_listed signs.Slash one first) (drop at ms))
    (behind_choice one start first (drop at ms))
