use Rattle.std.proofs.Common.{subst, sym, refl}
use Rattle.ecd_cast.specs.Spelling.{IsName, IsSpelledBlock}
use Rattle.ecd_cast.proofs.Layers.{spelled-For}
use Rattle.ecd_c_rows.proofs.levels_tests.repeat.Goals as goal

pub returns : goal.returns
returns c =
    spelled-For c.in_ok-name.name c.in_ok-bound.bound c.in_ok-body.body (subst IsName (sym c.in_ok-name.ensures) c.requires.name) (subst IsName (sym c.in_ok-bound.ensures) refl)
    (subst IsSpelledBlock (sym c.in_ok-body.ensures) (c.requires.inside, tt))
