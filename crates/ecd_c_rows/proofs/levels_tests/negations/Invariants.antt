use Rattle.ecd_cast.specs.Spelling.{IsSpelledExpr}
use Rattle.ecd_c_rows.proofs.levels_tests.negations.Given as goal

abbrev pub invariant-loop : goal.invariant-loop
invariant-loop l = IsSpelledExpr l.expr
