use Rattle.std.proofs.Common.{◌∙◌, ℕ, ap}
use Rattle.std.specs.Ordering.{nat_cmp}
use Rattle.ecd_tally.specs.Sums.{value}
use Rattle.ecd_tally.proofs.wide.Wide.compare.Goals as goal

pub returns : goal.returns
returns c = λ sum another lt less one two.
    c.compare_words.ensures ∙ (ap (λ (n : ℕ). nat_cmp n (value c.args.other.now.words)) (one lt) ∙ ap (nat_cmp sum) (two less))
