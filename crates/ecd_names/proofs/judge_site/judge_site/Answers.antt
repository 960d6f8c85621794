use Rattle.ecd_names.proofs.Judging.{uses_it}
use Rattle.ecd_names.proofs.judge_site.judge_site.Goals as goal

pub judge_use-requires-clause-used : goal.judge_use-requires-clause-used
judge_use-requires-clause-used c = uses_it c.args.scene.now.table.now c.args.scene.now.index c.args.scene.now.rule.now c.args.site.now c.in-Use.name c.in-Use.args c.in-Use.asked c.requires.scene.stands c.requires.among c.in-Use.is
