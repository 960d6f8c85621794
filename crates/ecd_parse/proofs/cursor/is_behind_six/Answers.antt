use Rattle.std.proofs.Common.{◌∙◌}
use Rattle.ecd_parse.proofs.Tokens.{six_before}
use Rattle.ecd_parse.proofs.cursor.is_behind_six.Goals as goal

pub returns-then-at-gt0 : goal.returns-then-at-gt0
returns-then-at-gt0 c = c.is_six.ensures ∙ six_before c.args.tokens.now c.args.at c.index-tokens-at.result c.if-at-gt0.true c.requires
