use Rattle.ecd_compile.proofs.Numbers.{number_is_encoded}
use Rattle.ecd_compile.proofs.laws.number_is_encoded.Goals as goal

pub returns : goal.returns
returns c = number_is_encoded
