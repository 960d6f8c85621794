-- What holds of the rules of names.
use Rattle.std.specs.Prelude.{ℕ, ◌≡◌, false, List}
use Rattle.ecd_syntax.specs.declared.tree.Rule.{Rule}
use Rattle.ecd_bodies.specs.Kinds.{IsGroup}
use Rattle.ecd_bodies.specs.Reaching.{IsRanked}
use Rattle.ecd_bodies.specs.Named.{arity_of, is_in_text}
use Rattle.ecd_names.specs.Breaks.{IsOfPrelude, Breaks, BreaksNone, IsFirst}

-- a text has at most one first broken rule
abbrev pub HasOneFirst : Type 0
HasOneFirst = (text : List Rule) (place number other_place other : ℕ) → IsFirst text place number → IsFirst text other_place other → (place ≡ other_place) × (number ≡ other)

-- where none is broken, none is first
abbrev pub NoneIsFirst : Type 0
NoneIsFirst = (text : List Rule) (place number : ℕ) → BreaksNone text → IsFirst text place number → ⊥

-- where names have a ranking, no use leads back
abbrev pub RankedBreaksNoThird : Type 0
RankedBreaksNoThird = (text : List Rule) (place : ℕ) → IsRanked text → Breaks text place 3 → ⊥

-- and where no use leads back, names have a ranking
abbrev pub NoThirdIsRanked : Type 0
NoThirdIsRanked = (text : List Rule) → ((place : ℕ) → Breaks text place 3 → ⊥) → IsRanked text

-- where none is broken, the text has no rule of a prelude name
abbrev pub PreludeIsKept : Type 0
PreludeIsKept = (text : List Rule) (name : List ℕ) → BreaksNone text → IsOfPrelude name → is_in_text text name ≡ false

-- a prelude name takes no arguments, whatever the text
abbrev pub PreludeTakesNone : Type 0
PreludeTakesNone = (text : List Rule) (name : List ℕ) → IsOfPrelude name → arity_of text name ≡ 0

-- and where none is broken, it is a type
abbrev pub PreludeIsOfTypes : Type 0
PreludeIsOfTypes = (text : List Rule) (name : List ℕ) → BreaksNone text → IsOfPrelude name → IsGroup text name → ⊥
