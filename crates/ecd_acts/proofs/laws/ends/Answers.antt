use Rattle.std.proofs.Common.{◌≡◌, true}
use Rattle.ecd_acts.proofs.Ends.{together}
use Rattle.ecd_acts.proofs.laws.ends.Goals as goal

pub returns : goal.returns
returns c = λ s t b. together (λ e. s e ≡ true) (λ e. t e ≡ true) (λ m e. b m e ≡ true)
