-- What stands at the front of the parts of an array, and what may follow them.
use Rattle.std.specs.Prelude.{ℕ, ◌==◌, if◌then◌else◌, nat_lt, List, [], ◌∷◌, ◌++◌, Bool, true, false}
use Rattle.ecd_core.specs.declared.shape.Kind.{Kind}
use Rattle.ecd_core.specs.declared.shape.Group.{Row_of-Part, end_of-Part, more_of-Part}
use Rattle.ecd_core.specs.declared.shape.Part.{Part, One', Opt', Many', Alt', Row_of-Way, end_of-Way, more_of-Way}
use Rattle.ecd_core.specs.Lists.{Each}
use Rattle.ecd_apart.specs.Apart.{Apart}

-- Whether parts may take no item: one item is never empty, an optional body may be, a repeated one where it may stand no time or its body may be empty, a choice
-- where a way may be.
unfoldable mutual
  pub may_be_empty : {m : _} → Row_of-Part m → Bool
  may_be_empty end_of-Part = true
  may_be_empty (more_of-Part part rest) = if part_may_be_empty part then may_be_empty rest else false

  pub part_may_be_empty : Part → Bool
  part_may_be_empty (One' at kind) = false
  part_may_be_empty (Opt' at _ body) = true
  part_may_be_empty (Many' at lo hi _ body) = if lo == 0 then true else may_be_empty body
  part_may_be_empty (Alt' at _ ways) = some_way_may_be_empty ways

  pub some_way_may_be_empty : {m : _} → Row_of-Way m → Bool
  some_way_may_be_empty end_of-Way = false
  some_way_may_be_empty (more_of-Way at _ body rest) = if may_be_empty body then true else some_way_may_be_empty rest

-- The shapes of the items with which parts may begin: the starts of the first part, and of those behind it where it may be empty.
unfoldable mutual
  pub starts : {m : _} → Row_of-Part m → List Kind
  starts end_of-Part = []
  starts (more_of-Part part rest) = part_starts part ++ (if part_may_be_empty part then starts rest else [])

  pub part_starts : Part → List Kind
  part_starts (One' at kind) = kind ∷ []
  part_starts (Opt' at _ body) = starts body
  part_starts (Many' at lo hi _ body) = starts body
  part_starts (Alt' at _ ways) = way_starts ways

  pub way_starts : {m : _} → Row_of-Way m → List Kind
  way_starts end_of-Way = []
  way_starts (more_of-Way at _ body rest) = starts body ++ way_starts rest

-- The shapes of the items that may follow a part: the starts of the parts behind it and, where these may be empty, what follows the group. Nothing follows an
-- array's group.
abbrev pub follow : {m : _} → Row_of-Part m → List Kind → List Kind
follow rest after = starts rest ++ (if may_be_empty rest then after else [])

-- What may follow one body of a repetition: another body, where there may be more than one.
abbrev pub follow_body : {m : _} → ℕ → Row_of-Part m → List Kind → List Kind
follow_body hi body after = if nat_lt 1 hi then starts body ++ after else after

-- Each shape of the one list is apart from each of the other.
abbrev pub AreApart : List Kind → List Kind → Type 0
AreApart kinds others = Each (λ (kind : Kind). Each (λ (other : Kind). Apart kind other) others) kinds
