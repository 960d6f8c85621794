use Rattle.ecd_acts.proofs.Names.{numbered_names, variables_found, functions_found}
use Rattle.ecd_acts.proofs.laws.names.Goals as goal

pub returns : goal.returns
returns c = record { numbers = numbered_names; variables = variables_found; functions = functions_found }
