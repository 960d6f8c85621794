use Rattle.ecd_csafe.proofs.SoundFiles.{valid_calls}
use Rattle.ecd_csafe.proofs.laws.valid_calls.Goals as goal

pub returns : goal.returns
returns c = valid_calls
