use Rattle.ecd_syntax.proofs.Verdicts.{unexpected_no_schema}
use Rattle.ecd_syntax.proofs.laws.a_schema_has_no_unexpected_token.Goals as goal

pub returns : goal.returns
returns c = λ tree tokens before rest s u. unexpected_no_schema tree tokens before rest u s
