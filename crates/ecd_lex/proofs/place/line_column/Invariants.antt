use Rattle.std.proofs.Common.{◌≡◌, ◌+◌, ◌≤◌, take}
use Rattle.std.specs.Prelude.{count_by}
use Rattle.std.specs.List.{suffix_len}
use Rattle.ecd_lex.specs.Places.{is_line_feed, stays_on_line}
use Rattle.ecd_lex.proofs.place.line_column.Given as goal

abbrev pub invariant-loop-byte : goal.invariant-loop-byte
invariant-loop-byte l =
    (l.line ≡ 1 + count_by is_line_feed (take l.byte-index l.byte-items)) × (l.column ≡ 1 + suffix_len stays_on_line (take l.byte-index l.byte-items)) × (l.line ≤ 1 + l.byte-index) × (l.column ≤ 1 + l.byte-index)
