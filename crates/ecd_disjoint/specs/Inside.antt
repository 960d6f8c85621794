-- What makes two shapes apart by what they hold.
use Rattle.std.specs.Prelude.{◌⊎◌, List}
use Rattle.ecd_core.specs.declared.shape.Kind.{Kind, Tag', Cbor', AnyTag', Array', Map'}
use Rattle.ecd_core.specs.declared.shape.Shape.{Shape}
use Rattle.ecd_core.specs.Lists.{Each}
use Rattle.ecd_apart.specs.Keys.{HasCut}
use Rattle.ecd_apart.specs.Apart.{Apart, OnlyApart, FirstApart, LastApart, NeededMisses, AreMissed, OfTagged, OfCbor, OfEnds, MapNeeds}

-- The contents of tags or of byte strings that hold an encoding, the ends of arrays, or a needed pair of a map.
abbrev pub InsideApart : Kind → Kind → Type 0
InsideApart (Tag' n _ inner) other = OfTagged (OnlyApart inner) other
InsideApart (AnyTag' _ inner) other = OfTagged (OnlyApart inner) other
InsideApart (Cbor' _ inner) other = OfCbor (OnlyApart inner) other
InsideApart (Array' _ parts) other = OfEnds (FirstApart parts) (LastApart parts) other
InsideApart (Map' _ entries) other = NeededMisses entries other ⊎ MapNeeds (λ key kind. AreMissed entries key kind (HasCut entries key)) other
InsideApart _ other = ⊥

-- Each alternative is apart from the shape.
abbrev pub EachIsApart : List Shape → Kind → Type 0
EachIsApart ways other = Each (λ (way : Shape). Apart way.kind other) ways
