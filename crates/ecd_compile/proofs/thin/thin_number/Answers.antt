use Rattle.std.proofs.Common.{rules}
use Rattle.ecd_compile.proofs.LoneRule.{lone_rule}
use Rattle.ecd_compile.proofs.thin.thin_number.Goals as goal

pub returns : goal.returns
returns c = lone_rule c.args.root.now c.args.rules.now c.rule-item.result c.lone_number.result c.in-len1.len_at_least c.in-len1.len_below c.rule-item.is (search rules) c.lone_number.ensures
