use Rattle.ecd_outside.proofs.Parts.{rejoined}
use Rattle.ecd_outside.specs.Memory.{left_at}
use Rattle.std.proofs.Common.{arith, drop, drop-drop, ap, sym, ◌∙◌, ◌≤◌, ◌≡◌, ◌+◌, take, length}
use Rattle.ecd_outside.proofs.memory_files.copy_left.Goals as goal

pub returns-clause-bytes : goal.returns-clause-bytes
returns-clause-bytes c =
    let left = left_at c.args.files.now c.args.place.file c.args.place.taken in
    let count = c.min-count.result in
    let moved : left_at c.args.files.now c.args.place.file (c.args.place.taken + count) ≡ drop count left = sym (drop-drop count c.args.place.taken (left_at c.args.files.now c.args.place.file 0)) in
    let front : c.copy_from_slice.new.self ≡ take count left = c.copy_from_slice.ensures.after ∙ ap (take count) c.bytes_left-left.ensures.bytes in
    let within : count ≤ length left = omega (arith, c.min-count.ensures, ap length c.bytes_left-left.ensures.bytes) in
    rw moved (rejoined left c.copy_from_slice.new.self (drop count c.args.into.now) count front within)
