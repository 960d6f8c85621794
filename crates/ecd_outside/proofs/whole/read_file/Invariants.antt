use Rattle.std.proofs.Common.{◌≡◌, ◌≤◌, ◌+◌, ◌-◌, true, vec_len}
use Rattle.ecd_outside.specs.Told.{IsTaken}
use Rattle.ecd_outside.proofs.whole.read_file.Given as goal

abbrev pub invariant-loop-bytes : goal.invariant-loop-bytes
invariant-loop-bytes g l =
    let f = g.F.Files in
    record {
      begun : f.begun l.files ≡ true;
      later : f.faults l.fn.files ≤ f.faults l.files;
      told : f.told l.files ≡ f.told l.fn.files;
      within : vec_len l.bytes ≤ l.limit + 1;
      taken : IsTaken (f.told l.fn.files) l.name l.bytes.items (f.left l.files);
    }

abbrev pub decreases-loop-bytes : goal.decreases-loop-bytes
decreases-loop-bytes g l = l.limit + 1 - vec_len l.bytes
