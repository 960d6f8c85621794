use Rattle.ecd_schema_laws.proofs.Breaking.{names_are_judged}
use Rattle.ecd_schema_laws.proofs.laws.names_are_judged.Goals as goal

pub returns : goal.returns
returns c = names_are_judged
