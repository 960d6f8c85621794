use Rattle.std.proofs.Common.{◌≡◌, take}
use Rattle.ecd_cast.specs.Validity.{block_declares}
use Rattle.ecd_cbuild.proofs.chains.+declared.Given as goal

abbrev pub invariant-block_declared-loop-stmt : goal.invariant-block_declared-loop-stmt
invariant-block_declared-loop-stmt l = l.count ≡ block_declares (take l.stmt-index l.body)
