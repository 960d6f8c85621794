use Rattle.std.proofs.Common.{false}
use Rattle.ecd_cjudge.proofs.Taking.{finds_unless}
use Rattle.ecd_cjudge.proofs.spot.note.Goals as goal

pub returns : goal.returns
returns c = finds_unless c.args.first.now c.note.new.self false c.args.spot c.args.rule c.note.ensures.seen
