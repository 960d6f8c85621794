use Rattle.std.proofs.Common.{take}
use Rattle.ecd_names.specs.Breaks.{SiteBreaks}
use Rattle.ecd_first.specs.Firsts.{offset, Sees, EachOf}
use Rattle.ecd_names.proofs.judge_site.judge_sites.Given as goal

abbrev pub invariant-loop-site : goal.invariant-loop-site
invariant-loop-site l = Sees offset l.initial.first.broken l.first.broken (EachOf (SiteBreaks l.scene.table.now l.scene.rule.now) (take l.site-index l.site-items))
