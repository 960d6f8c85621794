-- A rule that is judged, with what it is judged by.
use Rattle.std.specs.Prelude.{ℕ, ◌+◌, ◌^◌, ◌≡◌, ◌<◌, List, Some, length, get_or, slice_get}
use Rattle.ecd_prelude.specs.Prelude.{prelude_rules}
use Rattle.ecd_syntax.specs.declared.tree.Rule.{Rule}
use Rattle.ecd_bodies.specs.Named.{first_of}
use Rattle.ecd_names.specs.Breaks.{NameBreaks}
use Rattle.ecd_names.specs.Edges.{AreComponents}
use Rattle.ecd_names.specs.Scopes.{IsScope}
use Rattle.ecd_names.specs.declared.scene.Scene.{Scene}

pub record IsScene (scene : Scene) : Type 0 where
  pub stands : slice_get scene.table.now scene.index ≡ Some scene.rule.now
  pub scope : IsScope scene.rule.now scene.scope.now
  pub components : AreComponents scene.table.now scene.components.now
  pub prelude : scene.prelude ≡ length prelude_rules
  pub counted : scene.prelude + scene.index < 2 ^ 32

-- both names have rules, in one strongly connected component
pub record AreInOneComponent (text : List Rule) (components : List ℕ) (a b : List ℕ) : Type 0 where
  pub first : ℕ
  pub second : ℕ
  pub first_is : first_of text a ≡ Some first
  pub second_is : first_of text b ≡ Some second
  pub same : get_or components first 0 ≡ get_or components second 0

-- what the name of the rule breaks
pub record NameFaults (text before : List Rule) (rule : Rule) (place number : ℕ) : Type 0 where
  pub place_is : place ≡ rule.name.at
  pub broken : NameBreaks text before rule number
