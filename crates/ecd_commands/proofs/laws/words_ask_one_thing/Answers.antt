use Rattle.ecd_commands.proofs.Tables.{asks_one}
use Rattle.ecd_commands.proofs.laws.words_ask_one_thing.Goals as goal

pub returns : goal.returns
returns c = asks_one
