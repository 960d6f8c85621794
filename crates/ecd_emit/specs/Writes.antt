-- Bytes that functions write to a block.
use Rattle.std.specs.Prelude.{ℕ, ◌+◌, ◌^◌, ◌<◌, ◌≤◌, ◌≡◌, List, [], ◌∷◌, Some, slice_get, slice_set, length}
use Rattle.ecd_cast.specs.declared.value.Value.{Value}
use Rattle.ecd_cast.specs.declared.value.Value.TheVariants.{Number as Num, Bytes as Ptr}
use Rattle.ecd_cast.specs.Memory.{Memory, Bytes, Event, WritesByte, after}
use Rattle.ecd_head.specs.Place.{WritesAt}

-- a pointer into a block has so many bytes behind it from a place on
pub record Room (m : Memory) (block offset at count : ℕ) : Type 0 where
  pub whole : List ℕ
  pub there : slice_get m block ≡ Some (Bytes whole)
  pub fits : offset + at + count ≤ length whole
  pub short : at + count < 2 ^ 62

-- the writes of these bytes to a block, from a place of it on, one behind the other
abbrev pub puts : (block from : ℕ) → List ℕ → List Event
puts block from [] = []
puts block from (byte ∷ bytes) = WritesByte block from byte ∷ puts block (from + 1) bytes

-- the arguments (out, at, number)
abbrev pub storing : (block offset at number : ℕ) → List Value
storing block offset at number = Ptr block offset ∷ Num at ∷ Num number ∷ []

-- ---- a law

-- behind these writes the block holds the old bytes with these in them, and the rest of the memory is as it was
abbrev pub PutsAreWritten : Type 0
PutsAreWritten =
    (block from : ℕ) (bytes whole : List ℕ) (m : Memory) → slice_get m block ≡ Some (Bytes whole) → from + length bytes ≤ length whole →
    (new : List ℕ) × (after (puts block from bytes) m ≡ slice_set m block (Bytes new)) × WritesAt whole from bytes new
