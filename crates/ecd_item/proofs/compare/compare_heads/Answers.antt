use Rattle.std.proofs.Common.{arith}
use Rattle.ecd_item.proofs.Lengths.{head_most}
use Rattle.ecd_item.proofs.compare.compare_heads.Goals as goal

pub emit_head-one_end-requires-clause-room : goal.emit_head-one_end-requires-clause-room
emit_head-one_end-requires-clause-room c = omega (arith, head_most c.args.one.major c.args.one.arg)

pub emit_head-other_end-requires-clause-room : goal.emit_head-other_end-requires-clause-room
emit_head-other_end-requires-clause-room c = omega (arith, head_most c.args.other.major c.args.other.arg)
