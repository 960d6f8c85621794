use Rattle.ecd_outside.proofs.Parts.{appends_more}
use Rattle.std.proofs.Common.{arith}
use Rattle.ecd_outside.proofs.whole.put_all.Goals as goal

pub loop-rest-preserved : goal.loop-rest-preserved
loop-rest-preserved g c =
    let s = g.S.Sink in
    let w = c.loop-rest.invariant.written in
    record {
      later = omega (arith, c.loop-rest.invariant.later, c.in_ok-count.ensures.later);
      written = rw c.split_at.ensures.back (appends_more (s.written c.args.sink.now) (s.written c.loop-rest.sink) (s.written c.put.new.self) w.0 c.loop-rest.rest.now c.args.bytes.now c.in_ok-count.count w.1 w.2 c.in_ok-count.ensures.bytes);
    }
