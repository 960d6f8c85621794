use Rattle.ecd_prelude.proofs.Names.{listed}
use Rattle.ecd_prelude.proofs.floats.is_float_name.Goals as goal

pub returns : goal.returns
returns c = listed c.args.name.now c.is_listed.result c.is_listed.ensures
