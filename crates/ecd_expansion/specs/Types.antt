-- Types: each form of an operand, and each choice (RFC 8610, sections 2.2, 3.4, 3.6, 3.7 and 3.10).
use Rattle.std.specs.Prelude.{ℕ, ◌≡◌, List, [], ◌∷◌, ◌++◌, map, Option, Some, None}
use Rattle.ecd_lex.specs.declared.token.Bound.{Bound}
use Rattle.ecd_lex.specs.declared.token.Bound.TheVariants as bounds
use Rattle.ecd_syntax.specs.declared.tree.Alts.{Alts}
use Rattle.ecd_syntax.specs.declared.tree.Form.TheOpen as forms
use Rattle.ecd_syntax.specs.declared.tree.GroupTree.{GroupTree}
use Rattle.ecd_syntax.specs.declared.tree.Operation.{Operation, out-Operation}
use Rattle.ecd_syntax.specs.declared.tree.Rule.{Rule}
use Rattle.ecd_syntax.specs.declared.tree.Type1.{Type1, out-Type1}
use Rattle.ecd_syntax.specs.declared.tree.Type2.{Type2, out-Type2}
use Rattle.ecd_core.specs.declared.shape.Shape.{Shape}
use Rattle.ecd_core.specs.declared.shape.Kind.{Kind}
use Rattle.ecd_core.specs.declared.shape.Kind.TheVariants as k
use Rattle.ecd_core.specs.declared.shape.Part.{Part}
use Rattle.ecd_core.specs.declared.shape.MapEntry.{MapEntry}
use Rattle.ecd_core.specs.Nodes.{shape_at}
use Rattle.ecd_expansion.specs.declared.rule.ElabRule.TheVariants.{E1, U1, U2, U3}
use Rattle.ecd_expansion.specs.Arrays.{group_of, parts_of}
use Rattle.ecd_expansion.specs.Frames.{Frame, Choice, Instance, Standing, Argument, AFloat, Bodies, place_in, instances_of, standing_of}
use Rattle.ecd_expansion.specs.Groups.{Alternative, group_alternatives}
use Rattle.ecd_expansion.specs.Kinds.{AForm, GroupTest, form_in, form_behind}
use Rattle.ecd_expansion.specs.Leaves.{gives, greatest_argument, hash_meaning, literal_meaning}
use Rattle.ecd_expansion.specs.Operators.{shape_of, Operator, Refused, operator_of, operated, operated_told}
use Rattle.ecd_expansion.specs.Told.{Fault, fault, Told, told, refused, faulted, changed, told_all}
use Rattle.ecd_expansion.specs.Visits.{entries_in}
use Rattle.ecd_expansion.specs.Walks.{Walk, type_meaning, type_shape}

-- what all meanings depend on: the rules of the schema, which leads are groups in them, and how deep an item may nest where nothing is said of it
pub record Setting : Type 0 where
  pub text : List Rule
  pub is_group : GroupTest
  pub depth : ℕ

-- ---- names

-- a type's name stands for the choice of its bodies; a parameter for its argument
abbrev pub standing_meaning : Walk → ℕ → Standing → Told (List Shape)
standing_meaning walk at (Argument argument) = walk.choice argument.frame argument.choice
standing_meaning walk at AFloat = refused at U1
standing_meaning walk at (Bodies instances) = told_all (λ (i : Instance). walk.entry i.frame i.body) instances

-- ---- brackets

abbrev pub array_of : ℕ → List (Alternative Part) → List Shape
array_of at alternatives = shape_at at (k.Array (group_of (parts_of at alternatives))) ∷ []

abbrev pub way_map : Alternative MapEntry → Shape
way_map a = shape_at a.place (k.Map a.holds)

-- a `//` directly in braces makes a choice of maps, each at its way
abbrev pub maps_of : ℕ → List (Alternative MapEntry) → List Shape
maps_of at (a ∷ []) = shape_at at (k.Map a.holds) ∷ []
maps_of at alternatives = map way_map alternatives

-- ---- tags (RFC 8610, section 3.6)

abbrev pub tag_kind : Bound → Shape → Kind
tag_kind bounds.Missing inner = k.AnyTag inner
tag_kind (bounds.Is n) inner = k.Tag n inner
tag_kind bounds.Huge inner = k.AnyTag inner

abbrev pub number_faults : ℕ → Bound → List Fault
number_faults at bounds.Huge = fault at U3 ∷ []
number_faults at _ = []

abbrev pub tag_of : ℕ → Bound → Shape → List Shape
tag_of at number inner = shape_at at (tag_kind number inner) ∷ []

-- ---- `~` (RFC 8610, section 3.7)

-- the content of a tag that `~` takes off
abbrev pub content_meaning : ℕ → Walk → Frame → ℕ → AForm → Told (List Shape)
content_meaning depth walk frame at (forms.Tagged number body) = faulted (number_faults at number) (type_meaning walk frame body)
content_meaning depth walk frame at (forms.Hash major (bounds.Is number)) = gives at (k.Any depth)
content_meaning depth walk frame at (forms.Hash major bounds.Huge) = refused at U3
content_meaning depth walk frame at _ = told []

-- where the name leads to no form, the `~` is at fault
abbrev pub unwrapped : Walk → ℕ → Option Choice → Told (List Shape)
unwrapped walk at None = refused at E1
unwrapped walk at (Some found) = walk.content found.frame found.choice

-- ---- operands

abbrev pub form_meaning : Setting → Walk → Frame → ℕ → AForm → Told (List Shape)
form_meaning s walk frame at (forms.Form::Lit literal) = literal_meaning at literal
form_meaning s walk frame at (forms.Named name args) = standing_meaning walk at (standing_of s.text frame name args)
form_meaning s walk frame at (forms.Paren group) = told_all (walk.entry frame) (entries_in group)
form_meaning s walk frame at (forms.MapOf group) = changed (maps_of at) (group_alternatives walk.maps frame group)
form_meaning s walk frame at (forms.ArrayOf group) = changed (array_of at) (group_alternatives walk.arrays frame group)
form_meaning s walk frame at (forms.Unwrap name args) = unwrapped walk at (form_behind s.text frame name args)
form_meaning s walk frame at (forms.Enum group) = told_all (walk.enums.entry frame) (entries_in group)
form_meaning s walk frame at (forms.EnumName name args) = told_all (λ (i : Instance). walk.enums.entry i.frame i.body) (instances_of s.text frame name args)
form_meaning s walk frame at (forms.Tagged number body) = faulted (number_faults at number) (changed (tag_of at number) (type_shape walk frame body))
form_meaning s walk frame at (forms.Hash major arg) = hash_meaning s.depth at major arg

abbrev pub operand_meaning : Setting → Walk → Frame → Type2 → Told (List Shape)
operand_meaning s walk frame operand = form_meaning s walk frame (place_in frame (out-Type2 operand).at) (form_in operand)

-- ---- operators

-- an operator is judged where its sides have no fault; what they give else is of no weight
abbrev pub operator_meaning : Operator → ℕ → ℕ → ℕ → List Fault → List Shape → List Shape → Told (List Shape)
operator_meaning operator at operator_at right_at [] left right = operated_told at operator_at (operated operator right_at left right)
operator_meaning operator at operator_at right_at (f ∷ faults) left right = record { value = []; faults = f ∷ faults }

-- a control that is not taken, whatever its sides are
abbrev pub operation_meaning : Operator → ℕ → ℕ → ℕ → Told (List Shape) → Told (List Shape) → Told (List Shape)
operation_meaning Refused at operator_at right_at left right = record { value = []; faults = (left.faults ++ right.faults) ++ fault operator_at U2 ∷ [] }
operation_meaning operator at operator_at right_at left right = operator_meaning operator at operator_at right_at (left.faults ++ right.faults) left.value right.value

abbrev pub operated_or_not : Setting → Walk → Frame → ℕ → Type2 → Option Operation → Told (List Shape)
operated_or_not s walk frame at left None = operand_meaning s walk frame left
operated_or_not s walk frame at left (Some operation) =
    operation_meaning (operator_of (out-Operation operation).kind) at (place_in frame (out-Operation operation).at) (place_in frame (out-Type2 (out-Operation operation).right).at)
    (operand_meaning s walk frame left) (operand_meaning s walk frame (out-Operation operation).right)

abbrev pub choice_meaning : Setting → Walk → Frame → Type1 → Told (List Shape)
choice_meaning s walk frame choice = operated_or_not s walk frame (place_in frame (out-Type1 choice).at) (out-Type1 choice).left (out-Type1 choice).op

abbrev pub content_of_choice : Setting → Walk → Frame → Type1 → Told (List Shape)
content_of_choice s walk frame choice = content_meaning s.depth walk frame (place_in frame (out-Type1 choice).at) (form_in (out-Type1 choice).left)
