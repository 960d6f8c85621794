use Rattle.std.proofs.Common.{◌↔◌, drop}
use Rattle.ecd_disjoint.specs.Spans.{SpansApart}
use Rattle.ecd_disjoint.proofs.boxes.are_outside.Given as goal

abbrev pub invariant-loop-span : goal.invariant-loop-span
invariant-loop-span l = SpansApart l.spans l.others ↔ SpansApart (drop l.span-index l.spans) l.others
