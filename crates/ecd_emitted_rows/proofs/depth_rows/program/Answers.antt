use Rattle.std.proofs.Common.{sym, subst}
use Rattle.ecd_emit.specs.Among.{AreNew}
use Rattle.ecd_rt.specs.Runtime.{runtime_names}
use Rattle.ecd_rt.proofs.Fresh.{new_in_none}
use Rattle.ecd_emitted_rows.proofs.depth_rows.program.Goals as goal

pub runtime-requires-clause-new : goal.runtime-requires-clause-new
runtime-requires-clause-new c = subst (AreNew (runtime_names c.args.depth)) (sym c.new-builder.ensures) (new_in_none (runtime_names c.args.depth))
