-- Each call finds its names free behind what the ones before have put.
use Rattle.ecd_rt.proofs.Gathering.{extents_new, utf8_new, comparison_new, front_is, front_there, front_means}
use Rattle.ecd_rt.proofs.base.put_front.Goals as goal

pub extents-requires-clause-new : goal.extents-requires-clause-new
extents-requires-clause-new c = extents_new c.args.builder.now c.heads.new.builder c.in_ok-heads.ensures.items c.requires

pub utf8_check-requires : goal.utf8_check-requires
utf8_check-requires c = utf8_new c.args.builder.now c.heads.new.builder c.in_ok-heads.ensures.items c.requires c.extents.new.builder c.in_ok-extents.ensures.items

pub comparison-requires : goal.comparison-requires
comparison-requires c =
    comparison_new c.args.builder.now c.heads.new.builder c.in_ok-heads.ensures.items c.requires c.extents.new.builder c.in_ok-extents.ensures.items c.utf8_check.new.builder c.in_ok-utf8_check.ensures.items

pub returns-clause-items : goal.returns-clause-items
returns-clause-items c =
    front_is c.args.builder.now c.heads.new.builder c.in_ok-heads.ensures.items c.requires c.extents.new.builder c.in_ok-extents.ensures.items c.utf8_check.new.builder c.in_ok-utf8_check.ensures.items c.args.order c.comparison.new.builder c.in_ok-comparison.ensures.items

pub returns-clause-there : goal.returns-clause-there
returns-clause-there c =
    front_there c.args.builder.now c.heads.new.builder c.in_ok-heads.ensures.items c.requires c.extents.new.builder c.in_ok-extents.ensures.items c.utf8_check.new.builder c.in_ok-utf8_check.ensures.items c.args.order c.comparison.new.builder c.in_ok-comparison.ensures.items
    c.in_ok-heads.ensures.there c.in_ok-extents.ensures.there c.in_ok-utf8_check.ensures.there (record { order = c.args.order; there = c.in_ok-comparison.ensures.there })

pub returns-clause-mean : goal.returns-clause-mean
returns-clause-mean c =
    front_means c.args.builder.now c.heads.new.builder c.in_ok-heads.ensures.items c.requires c.extents.new.builder c.in_ok-extents.ensures.items c.utf8_check.new.builder c.in_ok-utf8_check.ensures.items c.args.order c.comparison.new.builder c.in_ok-comparison.ensures.items
    c.in_ok-heads.ensures.mean c.in_ok-extents.ensures.mean c.in_ok-utf8_check.ensures.mean c.in_ok-comparison.ensures.mean
