use Rattle.std.proofs.Common.{◌↔◌, drop}
use Rattle.ecd_disjoint.specs.Misses.{CutAmong}
use Rattle.ecd_disjoint.proofs.keys.has_cut.Given as goal

abbrev pub invariant-loop-entry : goal.invariant-loop-entry
invariant-loop-entry l = CutAmong l.entries l.key.kind ↔ CutAmong (drop l.entry-index l.entries) l.key.kind
