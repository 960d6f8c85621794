use Rattle.ecd_acts.proofs.Functions.{sound_parts, declared_parts, valid_functions}
use Rattle.ecd_acts.proofs.laws.functions.Goals as goal

pub returns : goal.returns
returns c = record { sound = sound_parts; declared = declared_parts; valid = valid_functions }
