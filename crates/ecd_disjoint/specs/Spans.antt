-- The boxes of the code.
use Rattle.std.specs.Prelude.{List, [], ◌∷◌}
use Rattle.ecd_core.specs.Lists.{Each}
use Rattle.ecd_apart.specs.Boxes.{Box, box, all_of_major, ShareNone}
use Rattle.ecd_disjoint.specs.declared.boxes.Span.{Span}

abbrev pub box_of : Span → Box
box_of span = box span.major span.lo span.hi

-- A box of every major type.
abbrev pub every_major : List Box
every_major =
    all_of_major 0 ∷ all_of_major 1 ∷ all_of_major 2 ∷ all_of_major 3 ∷ all_of_major 4 ∷ all_of_major 5 ∷ all_of_major 6 ∷ all_of_major 7 ∷ []

-- A box shares no head with any of the others.
abbrev pub SpanApart : List Span → Span → Type 0
SpanApart others span = Each (λ (other : Span). ShareNone (box_of span) (box_of other)) others

abbrev pub SpansApart : List Span → List Span → Type 0
SpansApart spans others = Each (SpanApart others) spans
