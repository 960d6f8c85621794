use Rattle.ecd_fixed_heads.proofs.Stands.{heads_end}
use Rattle.ecd_fixed_heads.proofs.Placed.{heads_mean, valid_1, valid_6, valid_8, heads_are_there}
use Rattle.ecd_fixed_heads.proofs.laws.heads_end.Goals as goal

pub returns : goal.returns
returns c = let a = heads_mean in let b = valid_8 in let d = heads_are_there in let e1 = valid_1 in let e6 = valid_6 in heads_end
