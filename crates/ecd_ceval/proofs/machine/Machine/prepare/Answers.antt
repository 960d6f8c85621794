use Rattle.ecd_cast.specs.Validity.{structs_of}
use Rattle.ecd_ceval.specs.Blocks.{memory_of}
use Rattle.ecd_ceval.proofs.Answering.{prepared_next, next_numbered}
use Rattle.ecd_ceval.proofs.machine.Machine.prepare.Goals as goal

pub loop-block-preserved : goal.loop-block-preserved
loop-block-preserved c = (
  tt,
  tt,
  prepared_next (structs_of c.as_slice-items.result.now) c.args.blocks c.loop-block.block-iterator.rest.items c.next.new.self.rest.items c.loop-block.held.items _ c.in-Some.block c.in_ok-hold.field-0 c.loop-block.invariant.2
      c.in-Some.ensures.steps.0 c.in_ok-push.ensures.items c.in_ok-hold.ensures,
)

pub invariant_of-result : goal.invariant_of-result
invariant_of-result c =
    let held = rw (c.as_slice-items.ensures, c.program.ensures.same) at c.loop-block.invariant.2 in record { all = held.holds (memory_of c.loop-block.held.items) }

pub hold-requires : goal.hold-requires
hold-requires c =
    next_numbered (structs_of c.as_slice-items.result.now) c.args.blocks c.loop-block.block-iterator.rest.items c.next.new.self.rest.items c.loop-block.held.items c.in-Some.block c.loop-block.invariant.2 c.in-Some.ensures.steps.0
