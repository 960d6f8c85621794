use Rattle.ecd_cast.specs.Spelling.{IsSpelledStmt}
use Rattle.ecd_c_rows.proofs.levels_tests.nested.Given as goal

abbrev pub invariant-loop : goal.invariant-loop
invariant-loop l = IsSpelledStmt l.stmt
