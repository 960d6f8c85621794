use Rattle.ecd_c_laws.proofs.Reading.{texts_are_read}
use Rattle.ecd_c_laws.proofs.laws.texts_are_read.Goals as goal

pub returns : goal.returns
returns c = texts_are_read
