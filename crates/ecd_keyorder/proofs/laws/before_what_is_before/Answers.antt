use Rattle.ecd_keyorder.proofs.Total.{is_transitive}
use Rattle.ecd_keyorder.proofs.laws.before_what_is_before.Goals as goal

pub returns : goal.returns
returns c = is_transitive
