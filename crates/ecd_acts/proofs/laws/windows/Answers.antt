use Rattle.ecd_acts.proofs.Windows.{window_parts}
use Rattle.ecd_acts.proofs.laws.windows.Goals as goal

pub returns : goal.returns
returns c = window_parts
