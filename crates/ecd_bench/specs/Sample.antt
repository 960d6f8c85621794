-- What is measured.
use Rattle.std.specs.Prelude.{ℕ, List, ◌++◌, replicate}
use Rattle.ecd_head.specs.Head.{head_bytes}

-- The encoding of an array of so many integers 1: a head of major type 4 with the count, and a head of each integer (RFC 8949, section 3).
abbrev pub array_of_ones : ℕ → List ℕ
array_of_ones count = head_bytes 4 count ++ replicate count 1
