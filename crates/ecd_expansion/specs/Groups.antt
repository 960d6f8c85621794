-- Groups: their alternatives, and groups put in place (RFC 8610, sections 2.1, 2.2.2, 3.2, 3.7 and 3.9).
use Rattle.std.specs.Prelude.{ℕ, ◌+◌, ◌≡◌, Bool, true, false, ◌&&◌, ◌||◌, ◌==◌, nat_lt, if◌then◌else◌, List, [], ◌∷◌, ◌++◌, flat_map, map, Option, Some, None}
use Rattle.ecd_lex.specs.declared.token.Bound.{Bound}
use Rattle.ecd_lex.specs.declared.token.Bound.TheVariants as bounds
use Rattle.ecd_syntax.specs.declared.tree.Alts.{Alts, out-Alts}
use Rattle.ecd_syntax.specs.declared.tree.Entry.{Entry, out-Entry}
use Rattle.ecd_syntax.specs.declared.tree.Form.TheOpen as forms
use Rattle.ecd_syntax.specs.declared.tree.GroupTree.{GroupTree, out-GroupTree}
use Rattle.ecd_syntax.specs.declared.tree.Occur.{Occur}
use Rattle.ecd_syntax.specs.declared.tree.Rule.{Rule}
use Rattle.ecd_syntax.specs.declared.tree.Type1.{Type1, out-Type1}
use Rattle.ecd_syntax.specs.declared.tree.WayTree.{WayTree, out-WayTree}
use Rattle.ecd_expansion.specs.declared.rule.ElabRule.TheVariants.{E3, U3}
use Rattle.ecd_expansion.specs.Frames.{Frame, Choice, Instance, Standing, Argument, AFloat, Bodies, place_in, standing_of}
use Rattle.ecd_expansion.specs.Kinds.{AForm, form_in, form_behind, bare_choice}
use Rattle.ecd_expansion.specs.Leaves.{greatest_argument}
use Rattle.ecd_expansion.specs.Told.{Fault, fault, Told, told, changed, told_each, told_all}

-- ---- occurrences (RFC 8610, section 3.2)

pub record Bounds : Type 0 where
  pub lo : ℕ
  pub hi : ℕ

-- a bound that is not written is 0 below and 2^64 - 1 above
abbrev pub bound_or : ℕ → Bound → ℕ
bound_or missing bounds.Missing = missing
bound_or missing (bounds.Is n) = n
bound_or missing bounds.Huge = greatest_argument

-- without an occurrence there is one
abbrev pub bounds_of : Option Occur → Bounds
bounds_of None = record { lo = 1; hi = 1 }
bounds_of (Some occur) = record { lo = bound_or 0 occur.lo; hi = bound_or greatest_argument occur.hi }

abbrev pub is_huge : Bound → Bool
is_huge bounds.Huge = true
is_huge _ = false

abbrev pub holds_none : Bounds → Bool
holds_none b = nat_lt b.hi b.lo || b.hi == 0

-- a bound out of range, and bounds that allow no number or only 0
abbrev pub occur_faults : ℕ → Option Occur → List Fault
occur_faults at None = []
occur_faults at (Some occur) =
    if is_huge occur.lo || is_huge occur.hi then fault at U3 ∷ [] else if holds_none (bounds_of (Some occur)) then fault at E3 ∷ [] else []

-- ---- alternatives

-- an alternative of a group: its place, its entries as they are written, and what they are in the group around
pub record Alternative (A : Type 0) : Type 0 where
  pub place : ℕ
  pub written : List Entry
  pub holds : List A

-- What a group around takes of the visits a level further in: an entry; a choice that is a group, a body of a group's name and the brackets behind a `~`, each
-- by its alternatives.
pub record GroupWalk (A : Type 0) : Type 0 where
  pub entry : Frame → Entry → Told (List A)
  pub choice : Frame → Type1 → Told (List (Alternative A))
  pub body : Frame → Entry → Told (List (Alternative A))
  pub brackets : Frame → Type1 → Told (List (Alternative A))

abbrev pub alternative : {A : Type 0} → ℕ → List Entry → List A → Alternative A
alternative place written holds = record { place = place; written = written; holds = holds }

-- a way between `//` is an alternative
abbrev pub way_alternative : {A : Type 0} → GroupWalk A → Frame → WayTree → Told (Alternative A)
way_alternative walk frame way = changed (alternative (place_in frame (out-WayTree way).at) (out-WayTree way).entries) (told_all (walk.entry frame) (out-WayTree way).entries)

abbrev pub group_alternatives : {A : Type 0} → GroupWalk A → Frame → GroupTree → Told (List (Alternative A))
group_alternatives walk frame group = told_each (way_alternative walk frame) (out-GroupTree group).ways

-- the alternatives of a group's name are those of its bodies, body by body
abbrev pub standing_alternatives : {A : Type 0} → GroupWalk A → Standing → Told (List (Alternative A))
standing_alternatives walk (Argument argument) = told []
standing_alternatives walk AFloat = told []
standing_alternatives walk (Bodies instances) = told_all (λ (i : Instance). walk.body i.frame i.body) instances

abbrev pub found_alternatives : {A : Type 0} → GroupWalk A → Option Choice → Told (List (Alternative A))
found_alternatives walk None = told []
found_alternatives walk (Some found) = walk.brackets found.frame found.choice

-- a group is a parenthesis, a name, or `~` before the name of an array or a map
abbrev pub form_alternatives : {A : Type 0} → List Rule → GroupWalk A → Frame → AForm → Told (List (Alternative A))
form_alternatives text walk frame (forms.Named name args) = standing_alternatives walk (standing_of text frame name args)
form_alternatives text walk frame (forms.Paren group) = group_alternatives walk frame group
form_alternatives text walk frame (forms.Unwrap name args) = found_alternatives walk (form_behind text frame name args)
form_alternatives text walk frame _ = told []

-- the ways of the brackets that `~` takes off
abbrev pub bracket_alternatives : {A : Type 0} → GroupWalk A → Frame → AForm → Told (List (Alternative A))
bracket_alternatives walk frame (forms.ArrayOf group) = group_alternatives walk frame group
bracket_alternatives walk frame (forms.MapOf group) = group_alternatives walk frame group
bracket_alternatives walk frame _ = told []

abbrev pub is_parenthesis : AForm → Bool
is_parenthesis (forms.Paren group) = true
is_parenthesis _ = false

abbrev pub parenthesis_of : Option Type1 → Option Type1
parenthesis_of None = None
parenthesis_of (Some choice) = if is_parenthesis (form_in (out-Type1 choice).left) then Some choice else None

-- a body that is one parenthesis alone has its ways as alternatives, and every other body is one alternative that holds it alone
abbrev pub body_or_alone : {A : Type 0} → GroupWalk A → (Frame → Entry → Told (List A)) → Frame → Entry → Option Type1 → Told (List (Alternative A))
body_or_alone walk entry frame body (Some choice) = walk.choice frame choice
body_or_alone walk entry frame body None = changed (λ holds. alternative (place_in frame (out-Entry body).at) (body ∷ []) holds ∷ []) (entry frame body)

abbrev pub body_alternatives : {A : Type 0} → GroupWalk A → (Frame → Entry → Told (List A)) → Frame → Entry → Told (List (Alternative A))
body_alternatives walk entry frame body = body_or_alone walk entry frame body (parenthesis_of (bare_choice body))

-- the alternatives of an entry's body, which is one choice
abbrev pub type_alternatives : {A : Type 0} → GroupWalk A → Frame → Alts → Told (List (Alternative A))
type_alternatives walk frame t = told_all (walk.choice frame) (out-Alts t).choices

-- one level of the walk, of what an entry is in the group around
abbrev pub group_level : {A : Type 0} → List Rule → (Frame → Entry → Told (List A)) → GroupWalk A → GroupWalk A
group_level text entry walk =
    record {
      entry = entry;
      choice = λ frame choice. form_alternatives text walk frame (form_in (out-Type1 choice).left);
      body = body_alternatives walk entry;
      brackets = λ frame choice. bracket_alternatives walk frame (form_in (out-Type1 choice).left);
    }

-- where no level is left
abbrev pub no_group : {A : Type 0} → GroupWalk A
no_group = record { entry = λ _ _. told []; choice = λ _ _. told []; body = λ _ _. told []; brackets = λ _ _. told [] }
