use Rattle.ecd_core.proofs.WalkLaws.{stand_together, nest_no_deeper}
use Rattle.ecd_core.proofs.laws.nodes_of_a_shape.Goals as goal

pub returns : goal.returns
returns c = record { together = stand_together; nesting = nest_no_deeper }
