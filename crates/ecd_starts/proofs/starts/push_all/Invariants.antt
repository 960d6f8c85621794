use Rattle.std.proofs.Common.{◌≡◌, drop, ◌++◌}
use Rattle.ecd_starts.specs.Kinds.{kinds_of}
use Rattle.ecd_starts.proofs.starts.push_all.Given as goal

abbrev pub invariant-loop-shape : goal.invariant-loop-shape
invariant-loop-shape l = kinds_of l.shapes.items ++ kinds_of (drop l.shape-index l.more) ≡ kinds_of l.initial.shapes.items ++ kinds_of l.more
