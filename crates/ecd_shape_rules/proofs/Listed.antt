-- Rows of parts are the lists of the source.
use Rattle.std.proofs.Common.{◌≡◌, Bool, true, false, cond, eqb, List, [], ◌++◌, refl, ap, sym, ◌∙◌}
use mathlib.Core.Former.{Count}
use Rattle.ecd_core.specs.declared.shape.Kind.{Kind}
use Rattle.ecd_core.specs.declared.shape.Kind.TheBlock as block
use Rattle.ecd_core.specs.declared.shape.Group.{Row_of-Part, end_of-Part, more_of-Part, items-the_row-Part}
use Rattle.ecd_core.specs.declared.shape.Part.{Part, Row_of-Way, end_of-Way, more_of-Way, items-the_row-Way}
use Rattle.ecd_core.specs.declared.shape.Way.{Way}
use Rattle.ecd_core.proofs.Layers.{parts-shown}
use Rattle.ecd_shape_rules.specs.Starts.{may_be_empty, part_may_be_empty, some_way_may_be_empty, starts, part_starts, way_starts, follow}
use Rattle.ecd_shape_rules.specs.Demands.{demands, parts_demand, part_demands}
use Rattle.ecd_shape_rules.specs.Listed.{are_emptiable, starts_of, follow_of, some_is_emptiable, ways_start, parts_demanded, StartsOverLists}

-- ---- parts

pub empty-row : {n : Count} (row : Row_of-Part n) → may_be_empty row ≡ are_emptiable (items-the_row-Part n row)
unfolding may_be_empty
empty-row end_of-Part = refl
empty-row (more_of-Part part rest) = ap (λ (b : Bool). cond (part_may_be_empty part) b false) (empty-row rest)

pub starts-row : {n : Count} (row : Row_of-Part n) → starts row ≡ starts_of (items-the_row-Part n row)
unfolding starts
starts-row end_of-Part = refl
starts-row (more_of-Part part rest) = ap (λ (l : List Kind). part_starts part ++ cond (part_may_be_empty part) l []) (starts-row rest)

pub follow-row : {n : Count} (row : Row_of-Part n) (after : List Kind) → follow row after ≡ follow_of (items-the_row-Part n row) after
follow-row row after = let a = starts-row row in let b = empty-row row in λ j. a j ++ cond (b j) after []

pub demand-row : {n : Count} (row : Row_of-Part n) (after : List Kind) → parts_demand row after ≡ parts_demanded (items-the_row-Part n row) after
unfolding demands
demand-row end_of-Part after = refl
demand-row (more_of-Part part rest) after = let a = follow-row rest after in let b = demand-row rest after in λ j. part_demands part (a j) ++ b j

pub empty-list : (parts : List Part) → may_be_empty (block.hidden-the_row-Part-2 parts) ≡ are_emptiable parts
empty-list parts = empty-row (block.hidden-the_row-Part-2 parts) ∙ ap are_emptiable (block.items_hidden-the_row-Part-2 parts)

pub starts-list : (parts : List Part) → starts (block.hidden-the_row-Part-2 parts) ≡ starts_of parts
starts-list parts = starts-row (block.hidden-the_row-Part-2 parts) ∙ ap starts_of (block.items_hidden-the_row-Part-2 parts)

pub follow-list : (parts : List Part) (after : List Kind) → follow (block.hidden-the_row-Part-2 parts) after ≡ follow_of parts after
follow-list parts after = follow-row (block.hidden-the_row-Part-2 parts) after ∙ ap (λ (l : List Part). follow_of l after) (block.items_hidden-the_row-Part-2 parts)

pub demand-list : (parts : List Part) (after : List Kind) → parts_demand (block.hidden-the_row-Part-2 parts) after ≡ parts_demanded parts after
demand-list parts after = demand-row (block.hidden-the_row-Part-2 parts) after ∙ ap (λ (l : List Part). parts_demanded l after) (block.items_hidden-the_row-Part-2 parts)

-- ---- ways

some-row : {n : Count} (row : Row_of-Way n) → some_way_may_be_empty row ≡ some_is_emptiable (items-the_row-Way n row)
unfolding may_be_empty
some-row end_of-Way = refl
some-row (more_of-Way at s body rest) =
    let a = empty-row body ∙ ap are_emptiable (sym (parts-shown s body)) in
    let b = some-row rest in
    λ j. cond (a j) true (b j)

ways-row : {n : Count} (row : Row_of-Way n) → way_starts row ≡ ways_start (items-the_row-Way n row)
unfolding starts
ways-row end_of-Way = refl
ways-row (more_of-Way at s body rest) =
    let a = starts-row body ∙ ap starts_of (sym (parts-shown s body)) in
    let b = ways-row rest in
    λ j. a j ++ b j

some-list : (ways : List Way) → some_way_may_be_empty (block.hidden-the_row-Way-4 ways) ≡ some_is_emptiable ways
some-list ways = some-row (block.hidden-the_row-Way-4 ways) ∙ ap some_is_emptiable (block.items_hidden-the_row-Way-4 ways)

ways-list : (ways : List Way) → way_starts (block.hidden-the_row-Way-4 ways) ≡ ways_start ways
ways-list ways = ways-row (block.hidden-the_row-Way-4 ways) ∙ ap ways_start (block.items_hidden-the_row-Way-4 ways)

pub starts_over_lists : StartsOverLists
unfolding may_be_empty starts
starts_over_lists = record {
  one = λ s. (refl, refl);
  opt = λ at g. (refl, starts-list g.parts);
  many = λ at lo hi g. (ap (λ (b : Bool). cond (eqb lo 0) true b) (empty-list g.parts), starts-list g.parts);
  alt = λ at ways. (some-list ways, ways-list ways);
}
