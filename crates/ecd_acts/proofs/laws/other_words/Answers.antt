use Rattle.std.proofs.Common.{◌≡◌, true}
use Rattle.ecd_acts.proofs.Ends.{as_answers, as_does}
use Rattle.ecd_acts.proofs.laws.other_words.Goals as goal

pub returns : goal.returns
returns c = record { answers = λ p. as_answers (λ n. p n ≡ true); does = as_does }
