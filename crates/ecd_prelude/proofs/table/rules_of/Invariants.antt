use Rattle.std.proofs.Common.{◌≡◌, map, take}
use Rattle.ecd_prelude.specs.Rows.{rule_of}
use Rattle.ecd_prelude.proofs.table.rules_of.Given as goal

abbrev pub invariant-loop-row : goal.invariant-loop-row
invariant-loop-row l = l.rules ≡ map rule_of (take l.row-index l.rows)
