use Rattle.ecd_prelude.proofs.Rules.{each_defines_type}
use Rattle.ecd_prelude.proofs.laws.rules.Goals as goal

pub returns : goal.returns
returns c = each_defines_type
