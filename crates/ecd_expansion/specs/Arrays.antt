-- Arrays, and what stands behind `&` (RFC 8610, sections 2.1, 2.2.2.2, 3.2 and 3.4).
use Rattle.std.specs.Prelude.{ℕ, Bool, true, false, ◌&&◌, ◌==◌, if◌then◌else◌, List, [], ◌∷◌, ◌++◌, flat_map, map, Option, Some, None}
use Rattle.ecd_syntax.specs.declared.tree.Alts.{Alts}
use Rattle.ecd_syntax.specs.declared.tree.Entry.{Entry, out-Entry}
use Rattle.ecd_syntax.specs.declared.tree.Key.{out-Key}
use Rattle.ecd_syntax.specs.declared.tree.Occur.{Occur}
use Rattle.ecd_core.specs.declared.shape.Group.{Group}
use Rattle.ecd_core.specs.declared.shape.Shape.{Shape}
use Rattle.ecd_core.specs.declared.shape.Part.{Part}
use Rattle.ecd_core.specs.declared.shape.Part.TheVariants as p
use Rattle.ecd_core.specs.declared.shape.Way.{Way}
use Rattle.ecd_expansion.specs.declared.rule.ElabRule.TheVariants.{E1}
use Rattle.ecd_expansion.specs.Frames.{Frame, place_in}
use Rattle.ecd_expansion.specs.Kinds.{GroupTest, is_body_group}
use Rattle.ecd_expansion.specs.Groups.{Alternative, Bounds, bounds_of, occur_faults, type_alternatives}
use Rattle.ecd_expansion.specs.Told.{Fault, fault, Told, faulted, changed}
use Rattle.ecd_expansion.specs.Walks.{Walk, type_meaning, type_shape, key_meaning}

-- ---- any entry

abbrev pub entry_place : Frame → Entry → ℕ
entry_place frame entry = place_in frame (out-Entry entry).at

-- what the occurrence and the key of an entry break
abbrev pub marked_faults : Walk → Frame → Entry → List Fault
marked_faults walk frame entry = occur_faults (entry_place frame entry) (out-Entry entry).occur ++ (key_meaning walk frame (out-Key (out-Entry entry).key)).faults

-- ---- arrays

abbrev pub group_of : List Part → Group
group_of parts = record { parts = parts }

abbrev pub way_of : Alternative Part → Way
way_of a = record { at = a.place; body = group_of a.holds }

-- a group with one alternative is put in place, and every other is a choice of ways
abbrev pub parts_of : ℕ → List (Alternative Part) → List Part
parts_of at (a ∷ []) = a.holds
parts_of at alternatives = p.Alt at (map way_of alternatives) ∷ []

-- an occurrence of 1 to 1 gives the body itself, one of 0 to 1 an optional body, and every other many bodies
abbrev pub occurring : ℕ → Bounds → List Part → List Part
occurring at b parts =
    if b.lo == 1 && b.hi == 1 then parts else if b.lo == 0 && b.hi == 1 then p.Opt at (group_of parts) ∷ [] else p.Many at b.lo b.hi (group_of parts) ∷ []

abbrev pub part_of : Shape → List Part
part_of shape = p.One shape ∷ []

-- a type is one item; keys mean nothing
abbrev pub array_body : Walk → Frame → ℕ → Alts → Bool → Told (List Part)
array_body walk frame at t true = changed (parts_of at) (type_alternatives walk.arrays frame t)
array_body walk frame at t false = changed part_of (type_shape walk frame t)

abbrev pub array_entry : GroupTest → Walk → Frame → Entry → Told (List Part)
array_entry is_group walk frame entry =
    faulted (marked_faults walk frame entry)
    (changed (occurring (entry_place frame entry) (bounds_of (out-Entry entry).occur)) (array_body walk frame (entry_place frame entry) (out-Entry entry).body (is_body_group is_group frame entry)))

-- ---- behind `&`: the types of the entries, groups put in place, keys without a meaning

abbrev pub occurs_faults : ℕ → Option Occur → List Fault
occurs_faults at None = []
occurs_faults at (Some occur) = fault at E1 ∷ []

abbrev pub all_held : {A : Type 0} → List (Alternative A) → List A
all_held alternatives = flat_map (λ a. a.holds) alternatives

abbrev pub enum_body : Walk → Frame → Alts → Bool → Told (List Shape)
enum_body walk frame t true = changed all_held (type_alternatives walk.enums frame t)
enum_body walk frame t false = type_meaning walk frame t

abbrev pub enum_entry : GroupTest → Walk → Frame → Entry → Told (List Shape)
enum_entry is_group walk frame entry =
    faulted (marked_faults walk frame entry ++ occurs_faults (entry_place frame entry) (out-Entry entry).occur) (enum_body walk frame (out-Entry entry).body (is_body_group is_group frame entry))

-- ---- where a type stands: an entry is its body

abbrev pub type_entry : Walk → Frame → Entry → Told (List Shape)
type_entry walk frame entry = faulted (marked_faults walk frame entry) (type_meaning walk frame (out-Entry entry).body)
