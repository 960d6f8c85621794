use Rattle.ecd_cjudge.proofs.NameLayers.{named_one}
use Rattle.ecd_cjudge.proofs.judge_names.name_one.Goals as goal

pub returns : goal.returns
returns c = named_one c.args.names.now c.insert.new.self c.args.first.now c.unless.new.first c.args.name _ c.in_ok-is_new.is_new c.in_ok-is_new.ensures.added c.unless.ensures c.in_ok-is_new.ensures.updates
