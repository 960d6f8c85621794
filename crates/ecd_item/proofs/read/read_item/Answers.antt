use Rattle.std.proofs.Common.{arith}
use Rattle.ecd_item.proofs.Clauses.{is_found, is_only, is_fault, is_refused}
use Rattle.ecd_item.proofs.read.read_item.Goals as goal

pub returns-clause-found : goal.returns-clause-found
returns-clause-found c =
    rw c.told.ensures (is_found c.args.order c.args.depth c.args.at c.args.bytes.now c.item_of.result (λ i. omega (arith, c.type_inv.bytes i)) c.item_of.ensures.gives)

pub returns-clause-only : goal.returns-clause-only
returns-clause-only c = λ item end whole stands.
    rw c.told.ensures (is_only c.args.order c.args.depth c.args.at c.args.bytes.now c.item_of.result item end c.item_of.ensures.gives whole stands)

pub returns-clause-fault : goal.returns-clause-fault
returns-clause-fault c =
    rw c.told.ensures (is_fault c.args.order c.args.depth c.args.at c.args.bytes.now c.item_of.result (λ i. omega (arith, c.type_inv.bytes i)) c.item_of.ensures.gives)

pub returns-clause-refused : goal.returns-clause-refused
returns-clause-refused c = λ place cause first.
    rw c.told.ensures (is_refused c.args.order c.args.depth c.args.at c.args.bytes.now c.item_of.result place cause c.item_of.ensures.gives first)
