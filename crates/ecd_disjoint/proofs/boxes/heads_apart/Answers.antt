use Rattle.std.proofs.Common.{take, sym, ◌∙◌}
use Rattle.ecd_core.specs.Lists.{Each}
use Rattle.ecd_apart.specs.Boxes.{Box, ShareNone}
use Rattle.ecd_disjoint.proofs.Loops.{along}
use Rattle.ecd_disjoint.proofs.Spans.{all_rows}
use Rattle.ecd_disjoint.proofs.boxes.heads_apart.Goals as goal

pub returns : goal.returns
returns c =
    let own = c.boxes_of-own.ensures.spans in
    let others = c.boxes_of-others.ensures.spans in
    along
    (sym (all_rows (take c.boxes_of-own.result.count c.boxes_of-own.result.spans) (take c.boxes_of-others.result.count c.boxes_of-others.result.spans)) ∙ (λ j. Each (λ (b : Box). Each (ShareNone b) (others j)) (own j)))
    c.are_outside.ensures
