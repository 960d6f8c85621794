-- Writing at a place.
use Rattle.std.specs.Prelude.{◌≡◌, ℕ, ◌+◌, List, length}
use Rattle.ecd_head.specs.Place.{WritesAt}

-- The text was written from a place on, up to the place behind it.
pub record Emits (old : List ℕ) (at : ℕ) (text new : List ℕ) (end : ℕ) : Type 0 where
  pub written : WritesAt old at text new
  pub behind : end ≡ at + length text
