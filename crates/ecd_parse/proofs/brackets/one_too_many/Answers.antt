use Rattle.std.proofs.Common.{◌≡◌, ◌+◌, take, get_or, ap, sym, ◌∙◌, arith}
use Rattle.ecd_syntax.specs.Faults.{open_behind, open_after}
use Rattle.ecd_parse.proofs.Counts.{one_opened, one_within, open_le}
use Rattle.ecd_parse.proofs.brackets.one_too_many.Goals as goal

pub returns-then-behind-gt-MOST_OPEN : goal.returns-then-behind-gt-MOST_OPEN
returns-then-behind-gt-MOST_OPEN c =
    let tokens = c.args.tokens.now in
    let d = c.index-tokens-at.result in
    let kind = (get_or tokens c.loop-at.at d).kind in
    let more = one_opened tokens c.loop-at.at d c.loop-at-test.true in
    let count : c.open_behind-behind.result ≡ open_after (take (c.loop-at.at + 1) tokens) 0 = c.open_behind-behind.ensures ∙ ap (open_behind kind) c.loop-at.invariant.count ∙ sym more in
    (c.loop-at-test.true, c.loop-at.invariant.within, omega (arith, count, open_le kind c.loop-at.opened))

pub loop-at-preserved : goal.loop-at-preserved
loop-at-preserved c =
    let tokens = c.args.tokens.now in
    let at = c.loop-at.at in
    let d = c.index-tokens-at.result in
    let more = one_opened tokens at d c.loop-at-test.true in
    record {
      bound = omega arith;
      count = c.open_behind-behind.ensures ∙ ap (open_behind (get_or tokens at d).kind) c.loop-at.invariant.count ∙ sym more;
      few = omega arith;
      within = one_within tokens at c.loop-at.opened d c.loop-at-test.true c.loop-at.invariant.within c.loop-at.invariant.count c.loop-at.invariant.few (omega (arith, c.open_behind-behind.ensures));
    }
