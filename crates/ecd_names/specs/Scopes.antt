-- What is kept of each rule: its parameters under their names, and its sites.
use Rattle.std.specs.Prelude.{◌≡◌, ◌<◌, ◌^◌, List, length}
use Rattle.std.specs.List.{AllZip}
use Rattle.ecd_syntax.specs.declared.tree.Rule.{Rule}
use Rattle.ecd_uses.specs.Sites.{sites_of}
use Rattle.ecd_names.specs.declared.scope.Scope.{Scope}
use Rattle.ecd_names.specs.Parameters.{AreParameters}

pub record IsScope (rule : Rule) (scope : Scope) : Type 0 where
  pub parameters : AreParameters rule.params scope.parameters
  pub counted : length rule.params < 2 ^ 32
  pub sites : scope.sites ≡ sites_of rule

-- one for each rule, in order
pub record AreScopes (rules : List Rule) (scopes : List Scope) : Type 0 where
  pub all : AllZip IsScope rules scopes
