-- Maps (RFC 8610, section 3.5; which groups a map may have is this project's own).
use Rattle.std.specs.Prelude.{ℕ, ◌≡◌, Bool, true, false, ◌&&◌, ◌||◌, not, ◌==◌, nat_le, is_none, if◌then◌else◌, List, [], ◌∷◌, ◌++◌, map, Option, Some, None}
use Rattle.std.specs.List.{list_all}
use Rattle.ecd_syntax.specs.declared.tree.Alts.{Alts}
use Rattle.ecd_syntax.specs.declared.tree.Entry.{Entry, out-Entry}
use Rattle.ecd_syntax.specs.declared.tree.Form.TheOpen as forms
use Rattle.ecd_syntax.specs.declared.tree.Key.{out-Key}
use Rattle.ecd_core.specs.declared.shape.Shape.{Shape}
use Rattle.ecd_core.specs.declared.shape.Kind.{Kind}
use Rattle.ecd_core.specs.declared.shape.Kind.TheVariants as k
use Rattle.ecd_core.specs.declared.shape.MapEntry.{MapEntry, Field', Table'}
use Rattle.ecd_core.specs.declared.shape.MapEntry.TheVariants as m
use Rattle.ecd_core.specs.declared.shape.MapWay.{MapWay}
use Rattle.ecd_core.specs.declared.shape.Pick.{Pick, roll-Pick}
use Rattle.ecd_expansion.specs.declared.rule.ElabRule.TheVariants.{E6}
use Rattle.ecd_expansion.specs.Frames.{Frame, place_in}
use Rattle.ecd_expansion.specs.Kinds.{AKey, GroupTest, is_keyed, is_body_group}
use Rattle.ecd_expansion.specs.Arrays.{entry_place, marked_faults, all_held}
use Rattle.ecd_expansion.specs.Groups.{Alternative, Bounds, bounds_of, occur_faults, type_alternatives}
use Rattle.ecd_expansion.specs.Leaves.{greatest_argument}
use Rattle.ecd_expansion.specs.Operators.{shape_of}
use Rattle.ecd_expansion.specs.Told.{Fault, fault, Told, told, faulted, changed, both}
use Rattle.ecd_expansion.specs.Walks.{Walk, type_meaning, type_shape, key_meaning}

-- ---- pairs (RFC 8610, sections 3.5.1, 3.5.2 and 3.5.4)

-- `word:` and `value:` have a cut, and `=>` with `^`
abbrev pub has_cut : AKey → Bool
has_cut forms.Missing = false
has_cut (forms.Arrow of cut) = cut
has_cut (forms.Word name) = true
has_cut (forms.Key::Lit at of) = true

-- a key that is one value
abbrev pub is_value : Kind → Bool
is_value (k.TextIs bytes) = true
is_value (k.BytesIs bytes) = true
is_value (k.Simple n) = true
is_value (k.Uint lo hi) = lo == hi
is_value (k.Nint lo hi) = lo == hi
is_value _ = false

-- a pair with one key is a field, and every other is one of a table
abbrev pub pair_of : ℕ → Bool → Bounds → Shape → Shape → List MapEntry
pair_of at cut b key value =
    if is_value key.kind then m.Field (record { at = at; key = key; cut = cut; lo = b.lo; value = value }) ∷ [] else m.Table (record { at = at; lo = b.lo; hi = b.hi; key = key; value = value }) ∷ []

abbrev pub pair_entry : Walk → Frame → Entry → Told (List MapEntry)
pair_entry walk frame entry =
    both (pair_of (entry_place frame entry) (has_cut (out-Key (out-Entry entry).key)) (bounds_of (out-Entry entry).occur))
    (changed (shape_of (entry_place frame entry)) (key_meaning walk frame (out-Key (out-Entry entry).key)))
    (type_shape walk frame (out-Entry entry).body)

-- ---- groups

abbrev pub way_of : Alternative MapEntry → MapWay
way_of a = record { at = a.place; entries = a.holds }

abbrev pub pick_of : ℕ → Bool → List (Alternative MapEntry) → List MapEntry
pick_of at needed alternatives = m.Pick (roll-Pick record { at = at; needed = needed; ways = map way_of alternatives }) ∷ []

-- one alternative is put in place, and every other group is a choice of ways
abbrev pub entries_of : ℕ → List (Alternative MapEntry) → List MapEntry
entries_of at (a ∷ []) = a.holds
entries_of at alternatives = pick_of at true alternatives

-- an alternative of one keyed entry without an occurrence, as it is written
abbrev pub is_single_pair : List Entry → Bool
is_single_pair (entry ∷ []) = is_keyed entry && is_none (out-Entry entry).occur
is_single_pair _ = false

-- a group that occurs any number of times, of such alternatives
abbrev pub is_repeatable : Bounds → List (Alternative MapEntry) → Bool
is_repeatable b alternatives = (b.lo == 0 && b.hi == greatest_argument) && list_all (λ a. is_single_pair a.written) alternatives

-- the entry with the occurrence `*`
abbrev pub repeated : MapEntry → MapEntry
repeated (Field' at key_at key cut lo value_at value) = Field' at key_at key cut 0 value_at value
repeated (Table' at lo hi key_at key value_at value) = Table' at 0 greatest_argument key_at key value_at value
repeated (m.Pick pick) = m.Pick pick

-- a group that occurs once, at most once, or, where it is repeatable, any number of times
abbrev pub group_entries : ℕ → Bounds → List (Alternative MapEntry) → Told (List MapEntry)
group_entries at b alternatives =
    if nat_le b.hi 1 then told (if b.lo == 0 then pick_of at false alternatives else entries_of at alternatives)
    else if is_repeatable b alternatives then told (map repeated (all_held alternatives))
    else record { value = []; faults = fault at E6 ∷ [] }

-- what comes of alternatives, with the faults of both
abbrev pub grouped : ℕ → Bounds → Told (List (Alternative MapEntry)) → Told (List MapEntry)
grouped at b one = faulted one.faults (group_entries at b one.value)

-- ---- entries

-- a type without a key has no place in a map
abbrev pub keyless_entry : Walk → Frame → Entry → Bool → Told (List MapEntry)
keyless_entry walk frame entry true = grouped (entry_place frame entry) (bounds_of (out-Entry entry).occur) (type_alternatives walk.maps frame (out-Entry entry).body)
keyless_entry walk frame entry false = record { value = []; faults = fault (entry_place frame entry) E6 ∷ (type_meaning walk frame (out-Entry entry).body).faults }

abbrev pub keyed_or_not : GroupTest → Walk → Frame → Entry → Bool → Told (List MapEntry)
keyed_or_not is_group walk frame entry true = pair_entry walk frame entry
keyed_or_not is_group walk frame entry false = keyless_entry walk frame entry (is_body_group is_group frame entry)

abbrev pub map_entry : GroupTest → Walk → Frame → Entry → Told (List MapEntry)
map_entry is_group walk frame entry = faulted (occur_faults (entry_place frame entry) (out-Entry entry).occur) (keyed_or_not is_group walk frame entry (is_keyed entry))
