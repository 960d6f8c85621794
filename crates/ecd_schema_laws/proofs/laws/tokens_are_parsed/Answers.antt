use Rattle.ecd_schema_laws.proofs.Parsing.{tokens_are_parsed}
use Rattle.ecd_schema_laws.proofs.laws.tokens_are_parsed.Goals as goal

pub returns : goal.returns
returns c = tokens_are_parsed
