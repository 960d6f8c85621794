-- Bytes of a text by their places.
use Rattle.std.specs.Prelude.{ℕ, List, slice_index}

-- the byte at a place, or 0 behind the end
abbrev pub byte_at : List ℕ → ℕ → ℕ
byte_at text at = slice_index text at
