use Rattle.std.proofs.Common.{◌≡◌, ◌+◌, ◌∙◌, ℕ, length, ap, arith}
use Rattle.ecd_tally.specs.Sums.{capacity, value}
use Rattle.ecd_tally.proofs.wide.WideTally.add.Goals as goal

pub returns : goal.returns
unfolding capacity
returns c = λ sum so_far fits.
    let is : value c.args.self.now.words ≡ sum = so_far (omega arith) in
    let room : length c.args.self.now.words ≡ 68 = omega arith in
    c.add_to.ensures (rw (is, room) fits) ∙ ap (λ (n : ℕ). n + c.args.number) is
