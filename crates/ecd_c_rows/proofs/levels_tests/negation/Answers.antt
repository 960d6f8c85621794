use Rattle.std.proofs.Common.{subst, sym}
use Rattle.ecd_cast.specs.Spelling.{IsSpelledExpr}
use Rattle.ecd_cast.proofs.Layers.{spelled-Not}
use Rattle.ecd_c_rows.proofs.levels_tests.negation.Goals as goal

pub returns : goal.returns
returns c = spelled-Not c.in_ok-new.field-0 (subst IsSpelledExpr (sym c.in_ok-new.ensures) c.requires)
