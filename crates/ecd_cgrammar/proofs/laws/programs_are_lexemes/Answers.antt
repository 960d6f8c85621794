use Rattle.ecd_cast.proofs.Spelled.{program_are}
use Rattle.ecd_cgrammar.proofs.laws.programs_are_lexemes.Goals as goal

pub returns : goal.returns
returns c = program_are
