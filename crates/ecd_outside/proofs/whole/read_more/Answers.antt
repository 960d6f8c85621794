use Rattle.ecd_outside.proofs.Parts.{takes_more}
use Rattle.std.proofs.Common.{arith, rules, vec_len, ◌+◌, ◌≤◌}
use Rattle.ecd_outside.proofs.whole.read_more.Goals as goal

pub returns-in-Err-extend_from_slice-clause-most : goal.returns-in-Err-extend_from_slice-clause-most
returns-in-Err-extend_from_slice-clause-most g c = λ name taken.
    let f = g.F.Files in
    let bound : c.in-Ok.count ≤ c.args.spare + 1 = search rules in
    takes_more (f.told c.args.files.now) name c.args.bytes.now.items c.read.new.into c.in-Ok.count (vec_len c.args.bytes.now + c.args.spare + 1) (f.left c.args.files.now) (f.left c.read.new.self) taken c.in-Ok.ensures.bytes (omega arith)
