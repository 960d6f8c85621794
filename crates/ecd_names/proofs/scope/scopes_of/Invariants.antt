use Rattle.std.proofs.Common.{take}
use Rattle.ecd_bodies.specs.Named.{all_rules}
use Rattle.ecd_names.specs.Scopes.{AreScopes}
use Rattle.ecd_names.proofs.scope.scopes_of.Given as goal

abbrev pub invariant-loop-number : goal.invariant-loop-number
invariant-loop-number l = AreScopes (take l.number (all_rules l.table)) l.scopes.items
