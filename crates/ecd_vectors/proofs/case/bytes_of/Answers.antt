use Rattle.ecd_vectors.proofs.Judging.{fewer}
use Rattle.ecd_vectors.proofs.case.bytes_of.Goals as goal

pub returns-in-Ok-clause-few : goal.returns-in-Ok-clause-few
returns-in-Ok-clause-few c = fewer c.args.digits.now c.in-Ok.bytes.items c.in-Ok.ensures.ok c.requires
