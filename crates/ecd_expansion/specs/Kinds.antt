-- Which form a name leads to (RFC 8610, section 3.7), and which bodies of entries are groups (sections 2.1 and 2.2).
use Rattle.std.specs.Prelude.{ℕ, zero, suc, ◌≡◌, ◌↔◌, Bool, true, false, ◌||◌, ◌==◌, is_some, if◌then◌else◌, List, [], ◌∷◌, length, Option, Some, None}
use Rattle.ecd_lex.specs.declared.token.Bound.TheVariants as bounds
use Rattle.ecd_syntax.specs.declared.tree.Alts.{Alts, out-Alts}
use Rattle.ecd_syntax.specs.declared.tree.Entry.{Entry, out-Entry}
use Rattle.ecd_syntax.specs.declared.tree.Form.{Form, Form-F, out-Form}
use Rattle.ecd_syntax.specs.declared.tree.Form.TheOpen as forms
use Rattle.ecd_syntax.specs.declared.tree.GroupTree.{GroupTree, out-GroupTree}
use Rattle.ecd_syntax.specs.declared.tree.Key.{Key, Key-F, out-Key}
use Rattle.ecd_syntax.specs.declared.tree.Name.{Name}
use Rattle.ecd_syntax.specs.declared.tree.Operation.{Operation}
use Rattle.ecd_syntax.specs.declared.tree.Rule.{Rule}
use Rattle.ecd_syntax.specs.declared.tree.Type1.{Type1, out-Type1}
use Rattle.ecd_syntax.specs.declared.tree.Type2.{Type2, out-Type2}
use Rattle.ecd_syntax.specs.declared.tree.WayTree.{WayTree, out-WayTree}
use Rattle.ecd_uses.specs.declared.site.Lead.{Lead}
use Rattle.ecd_uses.specs.Leads.{type_lead}
use Rattle.ecd_bodies.specs.Kinds.{LeadsToGroup, IsGroup}
use Rattle.ecd_bodies.specs.Named.{all_rules, is_parameter}
use Rattle.ecd_expansion.specs.Frames.{Frame, Outermost, Inside, Choice, Instance, params_in, instances_of}

-- ---- what stands alone

abbrev pub AForm : Type 0
AForm = Form-F Form Key Alts Entry GroupTree Operation Type1 Type2 WayTree

abbrev pub AKey : Type 0
AKey = Key-F Form Key Alts Entry GroupTree Operation Type1 Type2 WayTree

-- the form of an operand
abbrev pub form_in : Type2 → AForm
form_in operand = out-Form (out-Type2 operand).form

abbrev pub without : Option Operation → Type1 → Option Type1
without None choice = Some choice
without (Some operation) choice = None

-- the only choice, where it has no operator
abbrev pub only_choice : List Type1 → Option Type1
only_choice [] = None
only_choice (choice ∷ []) = without (out-Type1 choice).op choice
only_choice (choice ∷ more ∷ rest) = None

abbrev pub choice_alone : Alts → Option Type1
choice_alone t = only_choice (out-Alts t).choices

-- whether a key stands before the body
abbrev pub is_key : AKey → Bool
is_key forms.Missing = false
is_key (forms.Arrow of cut) = true
is_key (forms.Word name) = true
is_key (forms.Key::Lit at of) = true

abbrev pub is_keyed : Entry → Bool
is_keyed entry = is_key (out-Key (out-Entry entry).key)

-- an occurrence or a key stands before the body
abbrev pub is_marked : Entry → Bool
is_marked entry = is_some (out-Entry entry).occur || is_keyed entry

-- the body of an entry without occurrence and key that is one choice without an operator
abbrev pub bare_choice : Entry → Option Type1
bare_choice entry = if is_marked entry then None else choice_alone (out-Entry entry).body

-- ---- the form that a name leads to

-- an array, a map or a tag with a number or parentheses
abbrev pub is_form : AForm → Bool
is_form (forms.ArrayOf group) = true
is_form (forms.MapOf group) = true
is_form (forms.Tagged number body) = true
is_form (forms.Hash (Some major) (bounds.Is number)) = major == 6
is_form (forms.Hash (Some major) bounds.Huge) = major == 6
is_form _ = false

abbrev pub only_body : List Instance → Option Instance
only_body (one ∷ []) = Some one
only_body _ = None

-- the form itself, or what a name leads on to
abbrev pub lead_on : (Frame → Name → List Type1 → Option Choice) → Frame → AForm → Type1 → Option Choice
lead_on deeper frame (forms.Named name args) choice = deeper frame name args
lead_on deeper frame form choice = if is_form form then Some (record { frame = frame; choice = choice }) else None

abbrev pub lead_in_choice : (Frame → Name → List Type1 → Option Choice) → Frame → Option Type1 → Option Choice
lead_in_choice deeper frame None = None
lead_in_choice deeper frame (Some choice) = lead_on deeper frame (form_in (out-Type1 choice).left) choice

abbrev pub lead_in_body : (Frame → Name → List Type1 → Option Choice) → Option Instance → Option Choice
lead_in_body deeper None = None
lead_in_body deeper (Some instance) = lead_in_choice deeper instance.frame (bare_choice instance.body)

abbrev pub unless_parameter : Bool → Option Choice → Option Choice
unless_parameter true found = None
unless_parameter false found = found

-- so many names on the way show the form that the name leads to: that of its only body, where this is bare, or what the name there leads to. A parameter leads
-- to none
unfoldable pub leads_within : ℕ → List Rule → Frame → Name → List Type1 → Option Choice
leads_within zero text frame name args = None
leads_within (suc n) text frame name args =
    unless_parameter (is_parameter (params_in frame) name.text) (lead_in_body (leads_within n text) (only_body (instances_of text frame name args)))

-- the form that a name leads to, under its frame: no way is longer than there are rules
abbrev pub form_behind : List Rule → Frame → Name → List Type1 → Option Choice
form_behind text frame name args = leads_within (length (all_rules text)) text frame name args

-- ---- groups

-- what `~` takes off is a group
abbrev pub is_bracketed : AForm → Bool
is_bracketed (forms.ArrayOf group) = true
is_bracketed (forms.MapOf group) = true
is_bracketed _ = false

-- which leads are groups in a rule with these parameters
abbrev pub GroupTest : Type 0
GroupTest = List Name → Lead → Bool

-- they are those of the text
abbrev pub IsGroupTest : List Rule → GroupTest → Type 0
IsGroupTest text is_group = (params : List Name) (lead : Lead) → (is_group params lead ≡ true) ↔ LeadsToGroup (IsGroup text) params lead

-- the body of an entry is a group, whatever its occurrence. Behind a key stands a type
abbrev pub is_body_group : GroupTest → Frame → Entry → Bool
is_body_group is_group frame entry = if is_keyed entry then false else is_group (params_in frame) (type_lead (out-Entry entry).body)
