use Rattle.std.proofs.Common.{List, subst}
use Rattle.ecd_syntax.specs.declared.tree.Rule.{Rule}
use Rattle.ecd_names.specs.Breaks.{BreaksNone}
use Rattle.ecd_names.proofs.names.Names.rules.Goals as goal

pub returns-clause-none : goal.returns-clause-none
returns-clause-none c = subst (λ (t : List Rule). BreaksNone t) c.self.view_is c.self.invariant.none
