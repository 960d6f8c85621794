use Rattle.ecd_fixed_bytes.proofs.States.{states_tell}
use Rattle.ecd_fixed_bytes.proofs.laws.states_tell_utf8.Goals as goal

pub returns : goal.returns
returns c = states_tell
