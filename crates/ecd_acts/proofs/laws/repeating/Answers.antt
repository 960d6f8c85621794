use Rattle.std.proofs.Common.{◌≡◌, true}
use Rattle.ecd_acts.specs.Rules.{holds}
use Rattle.ecd_acts.proofs.Loops.{repeating, repeating_still, repeating_moving}
use Rattle.ecd_acts.proofs.laws.repeating.Goals as goal

pub returns : goal.returns
returns c = record {
  turns = λ p f i. repeating (holds p) (holds f) (λ turn. holds (i turn));
  moving = λ scopes p f j. repeating_moving scopes (holds p) (holds f) (λ turn v steps. j turn v steps ≡ true);
  still = λ p f j. repeating_still (holds p) (holds f) (λ turn steps. j turn steps ≡ true);
}
