-- The shape of a root, and the first fault of its expansion.
use Rattle.std.specs.Prelude.{ℕ, zero, suc, ◌≡◌, ◌≤◌, ◌<◌, ◌⊎◌, ◌&&◌, not, ◌==◌, if◌then◌else◌, List, [], ◌∷◌, map}
use Rattle.ecd_core.specs.Lists.{Each, IsIn}
use Rattle.ecd_syntax.specs.declared.tree.Name.{Name}
use Rattle.ecd_syntax.specs.declared.tree.Rule.{Rule}
use Rattle.ecd_core.specs.declared.shape.Shape.{Shape}
use Rattle.ecd_uses.specs.declared.site.Lead.TheVariants as leads
use Rattle.ecd_bodies.specs.Named.{arity_of, bodies_of, is_in_text}
use Rattle.ecd_expansion.specs.declared.rule.ElabRule.{ElabRule}
use Rattle.ecd_expansion.specs.declared.rule.ElabRule.TheVariants.{E1, E2, E3, E4, E5, E6, L1, L2, L3, L4, U1, U2, U3, U4}
use Rattle.ecd_expansion.specs.Arrays.{array_entry, enum_entry, type_entry}
use Rattle.ecd_expansion.specs.Frames.{Frame, Outermost, Instance, instances_of}
use Rattle.ecd_expansion.specs.Groups.{group_level}
use Rattle.ecd_expansion.specs.Kinds.{GroupTest, IsGroupTest}
use Rattle.ecd_expansion.specs.Limits.{BreaksLimit}
use Rattle.ecd_expansion.specs.Maps.{map_entry}
use Rattle.ecd_expansion.specs.Operators.{shape_of}
use Rattle.ecd_expansion.specs.Told.{Fault, fault, Told, changed, told_all}
use Rattle.ecd_expansion.specs.Types.{Setting, choice_meaning, content_of_choice}
use Rattle.ecd_expansion.specs.Visits.{Visit, instance_visit}
use Rattle.ecd_expansion.specs.Walks.{Walk, no_walk}

-- ---- the walk

abbrev pub level : Setting → Walk → Walk
level s walk =
    record {
      choice = choice_meaning s walk;
      entry = type_entry walk;
      content = content_of_choice s walk;
      arrays = group_level s.text (array_entry s.is_group walk) walk.arrays;
      maps = group_level s.text (map_entry s.is_group walk) walk.maps;
      enums = group_level s.text (enum_entry s.is_group walk) walk.enums;
    }

-- what entries and choices mean, where so many levels may be opened
unfoldable pub walk_within : ℕ → Setting → Walk
walk_within zero s = no_walk
walk_within (suc levels) s = level s (walk_within levels s)

-- ---- the root

abbrev pub root_name : List ℕ → Name
root_name root = record { at = 0; text = root }

abbrev pub root_instances : List Rule → List ℕ → List Instance
root_instances text root = instances_of text Outermost (root_name root) []

abbrev pub root_visits : List Rule → List ℕ → List Visit
root_visits text root = map instance_visit (root_instances text root)

-- the place of the name in the first of these rules
abbrev pub first_place : List Rule → ℕ
first_place [] = 0
first_place (rule ∷ rules) = rule.name.at

abbrev pub root_place : List Rule → List ℕ → ℕ
root_place text root = first_place (bodies_of text root)

-- what the root means: the choice of its bodies
abbrev pub root_meaning : Setting → List ℕ → Told Shape
root_meaning s root = changed (shape_of (root_place s.text root)) (told_all (λ (i : Instance). (walk_within 96 s).entry i.frame i.body) (root_instances s.text root))

-- ---- the root word, E4 and E5

-- a root is the name of a rule of the text; it has no parameters and is no group
abbrev pub root_faults : Setting → List ℕ → ℕ → List Fault
root_faults s root end =
    if is_in_text s.text root then (if (arity_of s.text root == 0) && not (s.is_group [] (leads.Named (root_name root))) then [] else fault (root_place s.text root) E5 ∷ []) else fault end E4 ∷ []

-- ---- the first fault

-- at one place U1 to U4 come before E1 to E6, and of these the lesser number first
abbrev pub rank : ElabRule → ℕ
rank U1 = 1
rank U2 = 2
rank U3 = 3
rank U4 = 4
rank E1 = 5
rank E2 = 6
rank E3 = 7
rank E4 = 8
rank E5 = 9
rank E6 = 10
rank L1 = 11
rank L2 = 12
rank L3 = 13
rank L4 = 14

-- the one comes no later than the other: by the places, and at one place by the ranks
abbrev pub ComesNoLater : Fault → Fault → Type 0
ComesNoLater a b = (a.place < b.place) ⊎ ((a.place ≡ b.place) × (rank a.rule ≤ rank b.rule))

-- one of the faults, and none comes before it
pub record IsLeast (faults : List Fault) (one : Fault) : Type 0 where
  pub among : IsIn one faults
  pub least : Each (ComesNoLater one) faults

-- the limit of the least number that is broken
pub record IsFirstLimit (text : List Rule) (root : List ℕ) (rule : ElabRule) : Type 0 where
  pub broken : BreaksLimit text (root_visits text root) rule
  pub first : (other : ElabRule) → BreaksLimit text (root_visits text root) other → rank rule ≤ rank other

abbrev pub BreaksNoLimit : List Rule → List ℕ → Type 0
BreaksNoLimit text root = (rule : ElabRule) → BreaksLimit text (root_visits text root) rule → ⊥

-- The fault that is named, of a text of so many bytes: of the root word; else of the limits, at the root's name; else the first of the expansion.
pub data FirstFault (s : Setting) (root : List ℕ) (end : ℕ) (one : Fault) : Type 0 where
  OfRoot : IsLeast (root_faults s root end) one → FirstFault s root end one
  OfLimits : root_faults s root end ≡ [] → IsFirstLimit s.text root one.rule → one.place ≡ root_place s.text root → FirstFault s root end one
  OfExpansion : root_faults s root end ≡ [] → BreaksNoLimit s.text root → IsLeast (root_meaning s root).faults one → FirstFault s root end one

-- The shape of the root, where there is no fault.
pub record ShapeOf (s : Setting) (root : List ℕ) (end : ℕ) (shape : Shape) : Type 0 where
  pub root_right : root_faults s root end ≡ []
  pub limits : BreaksNoLimit s.text root
  pub right : (root_meaning s root).faults ≡ []
  pub is : (root_meaning s root).value ≡ shape

-- ---- of a schema

abbrev pub setting : List Rule → GroupTest → ℕ → Setting
setting text is_group depth = record { text = text; is_group = is_group; depth = depth }

-- the shape of the root of a schema, of a text of so many bytes
pub record MeansShape (text : List Rule) (depth : ℕ) (root : List ℕ) (end : ℕ) (shape : Shape) : Type 0 where
  pub is_group : GroupTest
  pub test : IsGroupTest text is_group
  pub means : ShapeOf (setting text is_group depth) root end shape

-- its first fault
pub record MeansFault (text : List Rule) (depth : ℕ) (root : List ℕ) (end : ℕ) (one : Fault) : Type 0 where
  pub is_group : GroupTest
  pub test : IsGroupTest text is_group
  pub means : FirstFault (setting text is_group depth) root end one
