use Rattle.ecd_schema_laws.proofs.Compiling.{schemas_are_compiled}
use Rattle.ecd_schema_laws.proofs.laws.schemas_are_compiled.Goals as goal

pub returns : goal.returns
returns c = schemas_are_compiled
