-- The limits of the expansion of a root, L1 to L4, which are this project's own.
use Rattle.std.specs.Prelude.{ℕ, zero, suc, ◌≡◌, ◌<◌, max, Bool, true, false, List, [], flat_map, Option, Some, None}
use Rattle.ecd_core.specs.Lists.{HasSome}
use Rattle.ecd_core.specs.Walks.{greatest}
use Rattle.ecd_syntax.specs.declared.tree.Entry.{Entry, out-Entry}
use Rattle.ecd_syntax.specs.declared.tree.Form.TheOpen as forms
use Rattle.ecd_syntax.specs.declared.tree.Rule.{Rule}
use Rattle.ecd_syntax.specs.declared.tree.Type1.{Type1, out-Type1}
use Rattle.ecd_expansion.specs.declared.rule.ElabRule.{ElabRule}
use Rattle.ecd_expansion.specs.declared.rule.ElabRule.TheVariants.{L1, L2, L3, L4}
use Rattle.ecd_expansion.specs.Frames.{Frame, Choice, Instance}
use Rattle.ecd_expansion.specs.Kinds.{AForm, form_in, form_behind, is_keyed}
use Rattle.ecd_expansion.specs.Visits.{Visit, AnEntry, AChoice, inside, group_visits, form_visits, forms_of, type_visits, total, visits, GoesBelow, literals_within}

-- ---- keyed entries of one pair of braces (RFC 8610, section 3.5)

-- the entries of the brackets that a `~` leads to
abbrev pub bracket_visits : Frame → AForm → List Visit
bracket_visits frame (forms.ArrayOf group) = group_visits frame group
bracket_visits frame (forms.MapOf group) = group_visits frame group
bracket_visits frame _ = []

abbrev pub found_bracket_visits : Option Choice → List Visit
found_bracket_visits None = []
found_bracket_visits (Some found) = bracket_visits found.frame (form_in (out-Type1 found.choice).left)

-- what an operand puts into the group around: the entries of a parenthesis, the bodies of a name, the entries of what `~` leads to; maps, arrays, tags and `&`
-- have entries of their own
abbrev pub put_in_place : List Rule → Frame → AForm → List Visit
put_in_place text frame (forms.Named name args) = form_visits text frame (forms.Named name args)
put_in_place text frame (forms.Paren group) = group_visits frame group
put_in_place text frame (forms.Unwrap name args) = found_bracket_visits (form_behind text frame name args)
put_in_place text frame _ = []

abbrev pub keyed_or : (Visit → ℕ) → List Visit → Bool → ℕ
keyed_or deeper visits true = 1
keyed_or deeper visits false = total deeper visits

-- the keyed entries that a visit gives the group around
unfoldable pub keyed_within : ℕ → List Rule → Visit → ℕ
keyed_within zero text visit = 0
keyed_within (suc levels) text (AnEntry frame entry) = keyed_or (keyed_within levels text) (type_visits frame (out-Entry entry).body) (is_keyed entry)
keyed_within (suc levels) text (AChoice frame choice) = total (keyed_within levels text) (flat_map (put_in_place text frame) (forms_of choice))

-- those of one pair of braces, with all its alternatives
abbrev pub braces_keyed : (Visit → ℕ) → Frame → AForm → ℕ
braces_keyed keyed frame (forms.MapOf group) = total keyed (group_visits frame group)
braces_keyed keyed frame _ = 0

abbrev pub own_braces : (Visit → ℕ) → Visit → ℕ
own_braces keyed (AnEntry frame entry) = 0
own_braces keyed (AChoice frame choice) = greatest (braces_keyed keyed frame) (forms_of choice)

-- the most keyed entries in one pair of braces among a visit and those inside it
unfoldable pub most_keyed_within : ℕ → List Rule → Visit → ℕ
most_keyed_within zero text visit = 0
most_keyed_within (suc levels) text visit = max (own_braces (keyed_within levels text) visit) (greatest (most_keyed_within levels text) (inside text visit))

-- ---- the limits

-- The rule is broken by these visits: more than 4,096 steps in whatever many levels, more than 96 inside each other, and, within 96 levels, more than 256 keyed
-- entries in one pair of braces or more than 65,536 bytes in literals.
pub data BreaksLimit (text : List Rule) (roots : List Visit) (rule : ElabRule) : Type 0 where
  Steps : rule ≡ L1 → (levels : ℕ) → 4096 < total (visits levels text) roots → BreaksLimit text roots rule
  Nesting : rule ≡ L2 → HasSome (GoesBelow 96 text) roots → BreaksLimit text roots rule
  Fields : rule ≡ L3 → 256 < greatest (most_keyed_within 96 text) roots → BreaksLimit text roots rule
  Literals : rule ≡ L4 → 65536 < total (literals_within 96 text) roots → BreaksLimit text roots rule
