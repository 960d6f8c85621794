use Rattle.std.proofs.Common.{◌∙◌}
use Rattle.ecd_names.specs.Breaks.{SiteBreaks}
use Rattle.ecd_first.specs.Firsts.{offset}
use Rattle.ecd_first.proofs.Seeing.{sees_more}
use Rattle.ecd_names.proofs.Judging.{sees_all}
use Rattle.ecd_names.proofs.judge_site.judge_sites.Goals as goal

pub loop-site-preserved : goal.loop-site-preserved
loop-site-preserved c = sees_more offset (SiteBreaks c.args.scene.now.table.now c.args.scene.now.rule.now) _ _ _ c.as_slice-site-items.result.now c.loop-site.site-index c.site-item.result c.loop-site-test.true c.site-item.is c.loop-site.invariant c.judge_site.ensures

pub returns : goal.returns
returns c = sees_all (SiteBreaks c.args.scene.now.table.now c.args.scene.now.rule.now) _ _ c.as_slice-site-items.result.now _ c.loop-site.site-index c.loop-site-test.false (c.as_slice-site-items.ensures ∙ c.requires.scope.sites) c.loop-site.invariant
