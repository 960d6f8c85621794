use Rattle.ecd_parse.proofs.Tokens.{marks_got}
use Rattle.ecd_parse.proofs.cursor.token_at.Goals as goal

pub returns-clause-mark : goal.returns-clause-mark
returns-clause-mark c = marks_got c.args.tokens.now c.args.at c.get.result c.get.ensures.lookup.0 c.get.ensures.lookup.1
