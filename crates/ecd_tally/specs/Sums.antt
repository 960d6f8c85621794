-- What sums are sums of.
use Rattle.std.specs.Prelude.{◌≡◌, ℕ, ◌<◌, ◌^◌, min, List}
use Rattle.std.specs.Int.Digits.{number_from_digits}
use Rattle.ecd_tally.specs.declared.capped.Capped.{Capped}
use Rattle.ecd_tally.specs.declared.wide.Wide.{Wide}

-- The sum is this number, or 2^63 where that is less.
abbrev pub IsCapped : Capped → ℕ → Type 0
IsCapped sum number = sum.total ≡ min number (2 ^ 63)

-- The number of some words of 64 bits, the highest first.
abbrev pub value : List ℕ → ℕ
value words = number_from_digits (2 ^ 64) words

-- The least number that 68 words do not hold.
unfoldable pub capacity : ℕ
capacity = (2 ^ 64) ^ 68

-- The sum is this number, where the words hold it.
abbrev pub IsWide : Wide → ℕ → Type 0
IsWide sum number = number < capacity → value sum.words ≡ number
