use Rattle.ecd_schema_laws.proofs.Judging.{schemas_are_judged}
use Rattle.ecd_schema_laws.proofs.laws.schemas_are_judged.Goals as goal

pub returns : goal.returns
returns c = schemas_are_judged
