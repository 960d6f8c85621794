use Rattle.std.proofs.Common.{[], ◌∷◌, ap, sym, ◌∙◌}
use Rattle.ecd_apart.specs.Boxes.{box, boxes}
use Rattle.ecd_disjoint.specs.Counts.{items_least, items_greatest, entries_least, entries_greatest}
use Rattle.ecd_disjoint.proofs.CountRows.{array-boxes, map-boxes}
use Rattle.ecd_disjoint.proofs.boxes.boxes_of.Goals as goal

pub returns-in-Array-clause-spans : goal.returns-in-Array-clause-spans
returns-in-Array-clause-spans c =
    let least = c.least_items.ensures ∙ ap items_least c.as_slice.ensures in
    let greatest = c.greatest_items.ensures ∙ ap items_greatest c.as_slice-in-Array.ensures in
    c.one-in-Array.ensures.spans ∙ ((λ j. box 4 (least j) (greatest j) ∷ []) ∙ sym (ap boxes c.in-Array.is ∙ array-boxes c.in-Array.group))

pub returns-in-Map-clause-spans : goal.returns-in-Map-clause-spans
returns-in-Map-clause-spans c =
    let least = c.least_pairs.ensures ∙ ap entries_least c.as_slice-in-Map.ensures in
    let greatest = c.greatest_pairs.ensures ∙ ap entries_greatest c.as_slice-in-Map-2.ensures in
    c.one-in-Map.ensures.spans ∙ ((λ j. box 5 (least j) (greatest j) ∷ []) ∙ sym (ap boxes c.in-Map.is ∙ map-boxes c.in-Map.entries))
