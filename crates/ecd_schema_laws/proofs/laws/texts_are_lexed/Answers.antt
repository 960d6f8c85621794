use Rattle.ecd_schema_laws.proofs.Lexing.{texts_are_lexed}
use Rattle.ecd_schema_laws.proofs.laws.texts_are_lexed.Goals as goal

pub returns : goal.returns
returns c = texts_are_lexed
