-- What holds of names, their bodies, their kinds and what they reach.
use Rattle.std.specs.Prelude.{◌≡◌, ◌↔◌, ◌⊎◌, ℕ, true, false, List, [], length, map}
use Rattle.std.specs.List.{Contains}
use Rattle.ecd_prelude.specs.Laws.{name_in}
use Rattle.ecd_prelude.specs.Prelude.{prelude_rules, float_names}
use Rattle.ecd_syntax.specs.declared.tree.Rule.{Rule}
use Rattle.ecd_bodies.specs.Kinds.{HasGroupRule, IsGroup}
use Rattle.ecd_bodies.specs.Reaching.{Uses, ReachesName, IsRanked}
use Rattle.ecd_bodies.specs.Named.{bodies_of, is_in_text, IsDefined}
use Rattle.ecd_prelude.specs.Sockets.{is_socket, is_group_socket}

-- with a ranking there is no recursion
abbrev pub RankedNeverReachesBack : Type 0
RankedNeverReachesBack = (text : List Rule) (a b : List ℕ) → IsRanked text → Uses text a b → ReachesName text b a → ⊥

-- a name is not in the text exactly where it has the bodies that the prelude alone gives it
abbrev pub UntouchedKeepBodies : Type 0
UntouchedKeepBodies = (text : List Rule) (name : List ℕ) → (is_in_text text name ≡ false) ↔ (bodies_of text name ≡ bodies_of [] name)

-- the prelude gives each of its names one body, but for those of floats
abbrev pub PreludeGivesOneBody : Type 0
PreludeGivesOneBody = (name : List ℕ) → Contains (map name_in prelude_rules) name → length (bodies_of [] name) ≡ 1

abbrev pub FloatsHaveNoBody : Type 0
FloatsHaveNoBody = (name : List ℕ) → Contains float_names name → bodies_of [] name ≡ []

abbrev pub UndefinedHaveNoBody : Type 0
UndefinedHaveNoBody = (text : List Rule) (name : List ℕ) → (IsDefined text name → ⊥) → bodies_of text name ≡ []

-- Where the groups are known, a name is one where it is a socket of a group, or is no socket and one of its rules makes it one.
abbrev pub GroupsByRules : Type 0
GroupsByRules = (text : List Rule) (name : List ℕ) → IsGroup text name ↔ ((is_group_socket name ≡ true) ⊎ ((is_socket name ≡ false) × HasGroupRule (IsGroup text) text name))
