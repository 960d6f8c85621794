use Rattle.std.proofs.Common.{◌∙◌, sym}
use Rattle.ecd_head.proofs.Heads.{front_is, empty_is}
use Rattle.ecd_head.proofs.front.Goals as goal

pub returns-in-empty : goal.returns-in-empty
returns-in-empty c = sym (empty_is c.args.bytes.now c.in-empty.len_below)

pub returns-in-len1-up : goal.returns-in-len1-up
returns-in-len1-up c = c.judge.ensures ∙ sym (front_is c.args.bytes.now c.in-len1-up.len_at_least)
