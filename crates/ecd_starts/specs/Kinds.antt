-- Shapes that are borrowed, by what they hold.
use Rattle.std.specs.Prelude.{List, [], ◌∷◌}
use denote.Ref.{Bor}
use Rattle.ecd_core.specs.declared.shape.Kind.{Kind}
use Rattle.ecd_core.specs.declared.shape.Shape.{Shape}

-- The shapes of a list, without their places.
abbrev pub kinds_of : List (Bor Shape) → List Kind
kinds_of [] = []
kinds_of (shape ∷ shapes) = shape.now.kind ∷ kinds_of shapes
