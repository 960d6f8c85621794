-- What the emitted comparison and copy of bytes do.
use Rattle.std.specs.Prelude.{ℕ}
use Rattle.ecd_cast.specs.Meaning.{Calls, called}
use Rattle.ecd_keyorder.specs.declared.Order.TheVariants.{Bytewise}
use Rattle.ecd_fixed_bytes.specs.Compare.{compare_bytes, ComparesBytes}
use Rattle.ecd_fixed_bytes.specs.Copier.{copy_bytes, CopiesBytes}

-- wherever the function of the bytewise order stands, it compares bytes
abbrev pub ComparisonCompares : Type 0
ComparisonCompares = (calls : Calls) (number : ℕ) → ComparesBytes Bytewise (called calls number (compare_bytes Bytewise))

-- and the other one copies them
abbrev pub CopierCopies : Type 0
CopierCopies = (calls : Calls) (number : ℕ) → CopiesBytes (called calls number copy_bytes)
