use Rattle.std.proofs.Common.{sym, ◌∙◌}
use Rattle.ecd_cscope.proofs.PutFirst.{put_first}
use Rattle.ecd_cscope.proofs.by_name.put_first.Goals as goal

pub returns-in-Ok : goal.returns-in-Ok
returns-in-Ok o c = put_first c.args.values.now c.insert.new.self c.in_ok-key.key c.args.value c.args.name.now c.in_ok-key.ensures.items c.in-Ok.ensures.updates (sym c.contains_key.ensures ∙ c.if-not-contains_key.true)
