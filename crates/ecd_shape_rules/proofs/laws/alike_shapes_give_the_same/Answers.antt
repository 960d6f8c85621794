use Rattle.ecd_shape_rules.proofs.AlikeValues.{is_alike_itself, alike_give_the_same}
use Rattle.ecd_shape_rules.proofs.laws.alike_shapes_give_the_same.Goals as goal

pub returns : goal.returns
returns c = record { itself = is_alike_itself; values = alike_give_the_same }
