use Rattle.std.proofs.Common.{◌≡◌, ◌+◌, ◌≤◌, drop}
use Rattle.std.specs.Prelude.{if◌then◌else◌, ◌==◌}
use Rattle.ecd_lex.specs.Scan.{name_rest}
use Rattle.ecd_lex.proofs.name.name_rest.Given as goal

abbrev pub invariant-loop-at : goal.invariant-loop-at
invariant-loop-at l = (name_rest l.text ≡ (if name_rest (drop l.at l.text) == 0 then l.len else l.at + name_rest (drop l.at l.text))) × (l.len ≤ l.at)
