-- Choices and maps by rows are those by lists.
use Rattle.std.proofs.Common.{◌≡◌, List, ap, sym, ◌∙◌}
use Rattle.ecd_core.specs.declared.shape.Kind.{Choice', Map', items-the_row-Shape, items-the_row-MapEntry, roll-Kind, roll-out-Kind}
use Rattle.ecd_core.specs.declared.shape.Kind.TheVariants as k
use Rattle.ecd_core.specs.declared.shape.Kind.TheViews as views
use Rattle.ecd_core.specs.declared.shape.Shape.{Shape}
use Rattle.ecd_core.specs.declared.shape.MapEntry.{MapEntry}
use Rattle.ecd_core.proofs.Layers.{shapes-shown, entries-shown}

pub Choice-row : (s : List (Unit {0})) (r : _) → Choice' s r ≡ k.Choice (items-the_row-Shape _ r)
Choice-row s r = sym (roll-out-Kind (Choice' s r)) ∙ (ap roll-Kind (views.outs-Choice' s r) ∙ (k.rolls-Choice _ ∙ ap (λ (x : List Shape). k.Choice x) (shapes-shown s r)))

pub Map-row : (s : List (Unit {0})) (r : _) → Map' s r ≡ k.Map (items-the_row-MapEntry _ r)
Map-row s r = sym (roll-out-Kind (Map' s r)) ∙ (ap roll-Kind (views.outs-Map' s r) ∙ (k.rolls-Map _ ∙ ap (λ (x : List MapEntry). k.Map x) (entries-shown s r)))
