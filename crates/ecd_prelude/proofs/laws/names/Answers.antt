use Rattle.ecd_prelude.proofs.Names.{names-differ, names-are_no_sockets}
use Rattle.ecd_prelude.proofs.laws.names.Goals as goal

pub returns : goal.returns
returns c = record { differ = names-differ; no_sockets = names-are_no_sockets }
