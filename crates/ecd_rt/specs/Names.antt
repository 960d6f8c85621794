-- The names of the functions with a depth: a word, and the depth in decimal digits behind it.
use Rattle.std.specs.Prelude.{ℕ, ◌++◌, codes, decimal}
use Rattle.ecd_cast.specs.Memory.{Name}

unfoldable pub any_name : ℕ → Name
any_name deepest = codes "any_" ++ decimal deepest

unfoldable pub items_name : ℕ → Name
items_name deepest = codes "items_" ++ decimal deepest

unfoldable pub pairs_name : ℕ → Name
pairs_name deepest = codes "pairs_" ++ decimal deepest
