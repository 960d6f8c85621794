use Rattle.ecd_item.proofs.Bounds.{length_fits}
use Rattle.ecd_item.proofs.compare.compare_in.Goals as goal

pub compare_lengths-lengths-requires-clause-one_fits : goal.compare_lengths-lengths-requires-clause-one_fits
compare_lengths-lengths-requires-clause-one_fits c = length_fits c.args.order c.args.one.now c.requires.one_whole

pub compare_lengths-lengths-requires-clause-other_fits : goal.compare_lengths-lengths-requires-clause-other_fits
compare_lengths-lengths-requires-clause-other_fits c = length_fits c.args.order c.args.other.now c.requires.other_whole
