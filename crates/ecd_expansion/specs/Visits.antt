-- The steps of the expansion: each visit of an entry and of a choice of a type.
use Rattle.std.specs.Prelude.{ℕ, zero, suc, ◌+◌, ◌<◌, Bool, List, [], ◌∷◌, ◌++◌, map, flat_map, length, Option, Some, None}
use Rattle.ecd_syntax.specs.declared.tree.Alts.{Alts, out-Alts}
use Rattle.ecd_syntax.specs.declared.tree.Entry.{Entry, out-Entry}
use Rattle.ecd_syntax.specs.declared.tree.Form.TheOpen as forms
use Rattle.ecd_syntax.specs.declared.tree.GroupTree.{GroupTree, out-GroupTree}
use Rattle.ecd_syntax.specs.declared.tree.Key.{out-Key}
use Rattle.ecd_syntax.specs.declared.tree.Literal.{Literal}
use Rattle.ecd_syntax.specs.declared.tree.Literal.TheVariants as literals
use Rattle.ecd_syntax.specs.declared.tree.Operation.{Operation, out-Operation}
use Rattle.ecd_syntax.specs.declared.tree.Rule.{Rule}
use Rattle.ecd_syntax.specs.declared.tree.Type1.{Type1, out-Type1}
use Rattle.ecd_syntax.specs.declared.tree.Type2.{Type2}
use Rattle.ecd_syntax.specs.declared.tree.WayTree.{WayTree, out-WayTree}
use Rattle.ecd_core.specs.Lists.{HasSome}
use Rattle.ecd_expansion.specs.Frames.{Frame, Choice, Instance, Standing, Argument, AFloat, Bodies, instances_of, standing_of}
use Rattle.ecd_expansion.specs.Kinds.{AForm, AKey, form_in, form_behind}

pub data Visit : Type 0 where
  AnEntry : Frame → Entry → Visit
  AChoice : Frame → Type1 → Visit

-- ---- what a visit leads to

abbrev pub instance_visit : Instance → Visit
instance_visit instance = AnEntry instance.frame instance.body

abbrev pub choice_visit : Choice → Visit
choice_visit choice = AChoice choice.frame choice.choice

-- an argument is visited where a parameter stands, and the bodies of a name where it is used
abbrev pub standing_visits : Standing → List Visit
standing_visits (Argument argument) = choice_visit argument ∷ []
standing_visits AFloat = []
standing_visits (Bodies instances) = map instance_visit instances

abbrev pub found_visits : Option Choice → List Visit
found_visits None = []
found_visits (Some found) = choice_visit found ∷ []

abbrev pub entries_in : GroupTree → List Entry
entries_in group = flat_map (λ way. (out-WayTree way).entries) (out-GroupTree group).ways

abbrev pub group_visits : Frame → GroupTree → List Visit
group_visits frame group = map (AnEntry frame) (entries_in group)

abbrev pub type_visits : Frame → Alts → List Visit
type_visits frame t = map (AChoice frame) (out-Alts t).choices

-- an operand is no step of its own; `~` leads to the form that its name leads to
abbrev pub form_visits : List Rule → Frame → AForm → List Visit
form_visits text frame (forms.Form::Lit literal) = []
form_visits text frame (forms.Named name args) = standing_visits (standing_of text frame name args)
form_visits text frame (forms.Paren group) = group_visits frame group
form_visits text frame (forms.MapOf group) = group_visits frame group
form_visits text frame (forms.ArrayOf group) = group_visits frame group
form_visits text frame (forms.Unwrap name args) = found_visits (form_behind text frame name args)
form_visits text frame (forms.Enum group) = group_visits frame group
form_visits text frame (forms.EnumName name args) = map instance_visit (instances_of text frame name args)
form_visits text frame (forms.Tagged number body) = type_visits frame body
form_visits text frame (forms.Hash major arg) = []

abbrev pub operand_behind : Option Operation → List Type2
operand_behind None = []
operand_behind (Some operation) = (out-Operation operation).right ∷ []

-- the operands of a choice, on both sides of its operator
abbrev pub forms_of : Type1 → List AForm
forms_of choice = map form_in ((out-Type1 choice).left ∷ operand_behind (out-Type1 choice).op)

abbrev pub key_visits : Frame → AKey → List Visit
key_visits frame forms.Missing = []
key_visits frame (forms.Arrow of cut) = AChoice frame of ∷ []
key_visits frame (forms.Word name) = []
key_visits frame (forms.Key::Lit at of) = []

-- the visits directly inside one: of an entry its key, also where it means nothing, and its choices; of a choice what its operands lead to
abbrev pub inside : List Rule → Visit → List Visit
inside text (AnEntry frame entry) = key_visits frame (out-Key (out-Entry entry).key) ++ type_visits frame (out-Entry entry).body
inside text (AChoice frame choice) = flat_map (form_visits text frame) (forms_of choice)

-- ---- counts

-- the sum of some numbers, one for each element
abbrev pub total : {A : Type 0} → (A → ℕ) → List A → ℕ
total f [] = 0
total f (x ∷ xs) = f x + total f xs

-- how many visits there are, this one among them, where so many levels may be opened
unfoldable pub visits : ℕ → List Rule → Visit → ℕ
visits zero text visit = 0
visits (suc levels) text visit = suc (total (visits levels text) (inside text visit))

-- so many visits stand inside each other, and another one inside them
unfoldable pub GoesBelow : ℕ → List Rule → Visit → Type 0
GoesBelow zero text visit = Unit {0}
GoesBelow (suc levels) text visit = HasSome (GoesBelow levels text) (inside text visit)

-- ---- bytes of literals (RFC 8610, section 3.1)

-- a text and a byte string count what they hold, behind escapes
abbrev pub literal_bytes : Literal → ℕ
literal_bytes (literals.Int value) = 0
literal_bytes literals.Float = 0
literal_bytes (literals.Text bytes) = length bytes
literal_bytes (literals.Bytes bytes) = length bytes

abbrev pub form_bytes : AForm → ℕ
form_bytes (forms.Form::Lit literal) = literal_bytes literal
form_bytes _ = 0

-- a word before `:` counts too
abbrev pub key_bytes : AKey → ℕ
key_bytes (forms.Word name) = length name.text
key_bytes (forms.Key::Lit at of) = literal_bytes of
key_bytes _ = 0

abbrev pub own_bytes : Visit → ℕ
own_bytes (AnEntry frame entry) = key_bytes (out-Key (out-Entry entry).key)
own_bytes (AChoice frame choice) = total form_bytes (forms_of choice)

-- the bytes of a visit and of those inside it, each as often as it is visited
unfoldable pub literals_within : ℕ → List Rule → Visit → ℕ
literals_within zero text visit = 0
literals_within (suc levels) text visit = own_bytes visit + total (literals_within levels text) (inside text visit)
