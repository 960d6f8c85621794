use Rattle.std.proofs.Common.{◌≡◌, ◌≤◌, ◌++◌, List, ℕ, length}
use Rattle.std.specs.Io.KnownBytes.{append_known}
use Rattle.ecd_outside.proofs.whole.put_all.Given as goal

abbrev pub invariant-loop-rest : goal.invariant-loop-rest
invariant-loop-rest g l =
    let s = g.S.Sink in
    record {
      later : s.faults l.fn.sink ≤ s.faults l.sink;
      written : (front : List ℕ) × (l.bytes ≡ front ++ l.rest) × (s.written l.sink ≡ append_known (s.written l.fn.sink) front);
    }

abbrev pub decreases-loop-rest : goal.decreases-loop-rest
decreases-loop-rest g l = length l.rest
