-- The orders of the keys of a map: RFC 8949, sections 4.2.1 and 4.2.3.
use Rattle.std.specs.Prelude.{◌≡◌, ℕ, List, length}
use Rattle.std.specs.Ordering.{nat_cmp, ordering_then}
use Rattle.std.specs.Cmp.Lexicographic.{slice_cmp}
use Rattle.std.specs.declared.cmp.Ordering.{Ordering}
use Rattle.std.specs.declared.cmp.Ordering.TheVariants.{Less}
use Rattle.ecd_keyorder.specs.declared.Order.{Order}
use Rattle.ecd_keyorder.specs.declared.Order.TheVariants.{Bytewise, LengthFirst}

-- Bytewise lexicographic (section 4.2.1): the first bytes that differ decide, and bytes that begin others come before them.
-- Length-first (section 4.2.3): the shorter comes first, and of one length the first in the bytewise order.
abbrev pub comparison : Order → List ℕ → List ℕ → Ordering
comparison Bytewise a b = slice_cmp nat_cmp a b
comparison LengthFirst a b = ordering_then (nat_cmp (length a) (length b)) (slice_cmp nat_cmp a b)

-- The one encoding stands before the other.
abbrev pub IsBefore : Order → List ℕ → List ℕ → Type 0
IsBefore order a b = comparison order a b ≡ Less
