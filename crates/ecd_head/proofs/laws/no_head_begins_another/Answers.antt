use Rattle.ecd_head.proofs.Heads.{one_head}
use Rattle.ecd_head.proofs.laws.no_head_begins_another.Goals as goal

pub returns : goal.returns
returns c = λ major arg other_major other_arg rest other_rest w v e. one_head major arg other_major other_arg rest other_rest w v e
