use Rattle.ecd_one_value.proofs.OneValue.{has_one_value}
use Rattle.ecd_judged.proofs.judged.Judged.shape.Goals as goal

pub returns-clause-one : goal.returns-clause-one
returns-clause-one c = λ order item value other u w. has_one_value order c.self.inside.shape item value other c.self.invariant u w
