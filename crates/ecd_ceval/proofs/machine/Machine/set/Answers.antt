use Rattle.ecd_cast.specs.Validity.{structs_of}
use Rattle.ecd_ceval.proofs.Answering.{may_set}
use Rattle.ecd_ceval.proofs.machine.Machine.set.Goals as goal

pub set_cell-requires : goal.set_cell-requires
set_cell-requires c =
    let may = rw (← c.self.view_is) at c.requires in
    (may_set (structs_of c.self.inside.program.now.items) c.self.inside.state.blocks.items c.args.block c.args.cell c.args.to c.self.invariant may).0

pub invariant_of-self : goal.invariant_of-self
invariant_of-self c =
    let structs = structs_of c.self.inside.program.now.items in
    let may = rw (← c.self.view_is) at c.requires in
    c.set_cell.ensures.kept structs (may_set structs c.self.inside.state.blocks.items c.args.block c.args.cell c.args.to c.self.invariant may).1 c.self.invariant
