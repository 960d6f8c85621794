use Rattle.std.proofs.Common.{◌≡◌, true}
use Rattle.ecd_acts.specs.Rules.{holds}
use Rattle.ecd_acts.proofs.Statements.{calling, asking}
use Rattle.ecd_acts.proofs.laws.calling.Goals as goal

pub returns : goal.returns
returns c = record { calls = λ p q f. calling (holds p) (holds q) (holds f); asks = λ p r f. asking (holds p) (λ n k. r n k ≡ true) (holds f) }
