-- What a table of rules keeps.
use Rattle.std.specs.Prelude.{◌≡◌, ℕ, ◌<◌, ◌^◌, Bool, List, length}
use Rattle.std.specs.declared.alloc.Global.{Global}
use Rattle.std.specs.declared.vec.Vec.{Vec}
use Rattle.ecd_syntax.specs.declared.tree.Rule.{Rule}
use Rattle.ecd_prelude.specs.Prelude.{prelude_rules}
use Rattle.ecd_bodies.specs.Named.{all_rules}
use Rattle.ecd_bodies.specs.Numbers.{IsNumbered, first_in}
use Rattle.ecd_bodies.specs.Causes.{AreJudged}

pub record IsTable (prelude text : List Rule) (entries : List (Vec ℕ Global × List ℕ)) (groups : List Bool) : Type 0 where
  pub first : prelude ≡ prelude_rules
  pub counted : length (all_rules text) < 2 ^ 32
  pub numbered : IsNumbered entries (all_rules text)
  pub judged : AreJudged text (first_in entries) groups
  pub marks : length (all_rules text) < length groups
