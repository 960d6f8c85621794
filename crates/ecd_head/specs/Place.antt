-- Bytes at a place of a slice.
use Rattle.std.specs.Prelude.{◌≡◌, ℕ, ◌+◌, ◌≤◌, List, ◌++◌, length, take, drop}

-- The text stands in the bytes from a place on, up to the place behind it.
pub record StandsAt (bytes : List ℕ) (at : ℕ) (text : List ℕ) (end : ℕ) : Type 0 where
  pub there : (rest : List ℕ) × (drop at bytes ≡ text ++ rest)
  pub behind : end ≡ at + length text

-- The new bytes are the old ones with the text in them from a place on, and else the same.
pub record WritesAt (old : List ℕ) (at : ℕ) (text new : List ℕ) : Type 0 where
  pub fits : at + length text ≤ length old
  pub made : new ≡ take at old ++ text ++ drop (at + length text) old
