use Rattle.std.proofs.Common.{subst}
use Rattle.std.proofs.Math.Nat.{zero-add}
use Rattle.ecd_item_laws.specs.Encoding.{encoded_length}
use Rattle.ecd_tally.specs.Sums.{IsCapped}
use Rattle.ecd_item.proofs.measure.capped_length.Goals as goal

pub returns : goal.returns
returns c =
    c.total.ensures (encoded_length c.args.item.now) (subst (IsCapped c.measure.new.total) (zero-add (encoded_length c.args.item.now)) (c.measure.ensures 0 c.new-length.ensures))
