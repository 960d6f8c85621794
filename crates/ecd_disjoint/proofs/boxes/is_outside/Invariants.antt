use Rattle.std.proofs.Common.{◌↔◌, drop}
use Rattle.ecd_disjoint.specs.Spans.{SpanApart}
use Rattle.ecd_disjoint.proofs.boxes.is_outside.Given as goal

abbrev pub invariant-loop-other : goal.invariant-loop-other
invariant-loop-other l = SpanApart l.others l.span ↔ SpanApart (drop l.other-index l.others) l.span
