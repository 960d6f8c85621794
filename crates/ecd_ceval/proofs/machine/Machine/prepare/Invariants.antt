use Rattle.ecd_cast.specs.Validity.{structs_of}
use Rattle.ecd_ceval.proofs.Answering.{Prepared}
use Rattle.ecd_ceval.proofs.machine.Machine.prepare.Given as goal

abbrev pub invariant-loop-block : goal.invariant-loop-block
invariant-loop-block l =
    (goal.iterator-loop-block).can_next l.block-iterator ×
    (goal.iterator-loop-block).is_finite l.block-iterator ×
    Prepared (structs_of l.items) l.fn.blocks l.block-iterator.rest.items l.held.items
