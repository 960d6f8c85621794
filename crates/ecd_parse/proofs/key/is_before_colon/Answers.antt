use Rattle.std.proofs.Common.{◌∙◌}
use Rattle.ecd_syntax.specs.Marks.{marks}
use Rattle.ecd_parse.proofs.Tokens.{colon_here}
use Rattle.ecd_parse.proofs.key.is_before_colon.Goals as goal

pub returns : goal.returns
returns c = c.is_some.ensures ∙ colon_here (marks c.args.tokens.now) c.args.at c.sign_at.result c.sign_at.ensures.found
