-- The ends of arrays, over the lists of the source.
use Rattle.std.specs.Prelude.{◌⊎◌, if◌then◌else◌, List, [], ◌∷◌, ◌++◌, reverse}
use Rattle.ecd_core.specs.declared.shape.Kind.{Kind}
use Rattle.ecd_core.specs.declared.shape.Part.{Part, One'}
use Rattle.ecd_apart.specs.Apart.{Apart, is_one, one_of}
use Rattle.ecd_disjoint.specs.declared.ends.End.{End}
use Rattle.ecd_disjoint.specs.declared.ends.End.TheVariants.{First, Last}

-- The parts, from this end on.
abbrev pub facing : End → List Part → List Part
facing First parts = parts
facing Last parts = reverse parts

-- The shapes of the first parts, as long as each is one item.
abbrev pub singles : List Part → List Kind
singles [] = []
singles (part ∷ parts) = if is_one part then one_of part ++ singles parts else []

-- At a place that both lists have the shapes are apart.
abbrev pub SomeApart : List Kind → List Kind → Type 0
SomeApart [] others = ⊥
SomeApart (kind ∷ kinds) [] = ⊥
SomeApart (kind ∷ kinds) (other ∷ others) = Apart kind other ⊎ SomeApart kinds others

-- At a place, counted from this end, that both have among their first single items the shapes are apart.
abbrev pub EndsApart : End → List Part → List Part → Type 0
EndsApart end parts others = SomeApart (singles (facing end parts)) (singles (facing end others))

-- Both are single items, of shapes that are apart.
abbrev pub SinglesApart : Part → Part → Type 0
SinglesApart (One' at kind) (One' there other) = Apart kind other
SinglesApart (One' at kind) _ = ⊥
SinglesApart _ other = ⊥
