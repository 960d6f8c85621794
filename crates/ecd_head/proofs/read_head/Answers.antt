use Rattle.std.proofs.Common.{arith}
use Rattle.ecd_head.proofs.Heads.{is_found, is_only, is_fault}
use Rattle.ecd_head.proofs.read_head.Goals as goal

pub returns-clause-found : goal.returns-clause-found
returns-clause-found c = is_found c.args.bytes.now c.args.at c.head_placed.result (λ i. omega (arith, c.type_inv.bytes i)) c.head_placed.ensures.exact

pub returns-clause-only : goal.returns-clause-only
returns-clause-only c = λ h end w s. is_only c.args.bytes.now c.args.at c.head_placed.result h end c.head_placed.ensures.exact w s

pub returns-clause-fault : goal.returns-clause-fault
returns-clause-fault c = λ fault. is_fault c.args.bytes.now c.args.at c.head_placed.result fault c.head_placed.ensures.exact
