use Rattle.ecd_expansion.proofs.Steps.{steps_grow, steps_show_soon}
use Rattle.ecd_expansion.proofs.laws.steps_by_levels.Goals as goal

pub returns : goal.returns
returns c = record { grow = steps_grow; soon = steps_show_soon }
