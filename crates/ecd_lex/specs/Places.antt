-- Lines and columns of a text, both from 1, the column counted in bytes. A line feed ends its line.
use Rattle.std.specs.Prelude.{ℕ, ◌+◌, Bool, ◌==◌, not, List, take, count_by}
use Rattle.std.specs.List.{suffix_len}

abbrev pub is_line_feed : ℕ → Bool
is_line_feed c = c == 10

abbrev pub stays_on_line : ℕ → Bool
stays_on_line c = not (c == 10)

-- one more than the line feeds before the place
abbrev pub line_of : List ℕ → ℕ → ℕ
line_of text place = 1 + count_by is_line_feed (take place text)

-- one more than the bytes before the place that stand on its line
abbrev pub column_of : List ℕ → ℕ → ℕ
column_of text place = 1 + suffix_len stays_on_line (take place text)
