use Rattle.ecd_c_laws.proofs.Reading.{texts_are_judged}
use Rattle.ecd_c_laws.proofs.laws.texts_are_judged.Goals as goal

pub returns : goal.returns
returns c = texts_are_judged
