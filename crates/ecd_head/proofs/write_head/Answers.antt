use Rattle.std.proofs.Common.{arith}
use Rattle.ecd_head.proofs.Heads.{head_bytes-9}
use Rattle.ecd_head.proofs.write_head.Goals as goal

pub returns-clause-ok : goal.returns-clause-ok
returns-clause-ok c =
    let h = c.put-2.ensures.ok in
    let e = c.to_be_bytes-b-2.ensures in rw (head_bytes-9 c.args.head.major c.args.head.arg (omega arith)) (rw e at h)
