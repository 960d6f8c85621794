use Rattle.std.proofs.Common.{sym, ◌∙◌}
use Rattle.ecd_names.proofs.Naming.{put_first}
use Rattle.ecd_names.proofs.parameters.put_first.Goals as goal

pub returns-in-Ok : goal.returns-in-Ok
returns-in-Ok c = put_first c.args.numbers.now c.insert.new.self c.in_ok-key.key c.args.number c.args.name.now c.in_ok-key.ensures.items c.in-Ok.ensures.updates (sym c.contains_key.ensures ∙ c.if-not-contains_key.true)
