use Rattle.std.proofs.Common.{drop, None, sym, arith}
use Rattle.std.specs.Option.{option_copied}
use Rattle.std.proofs.lemmas.Result.{err_from_is_err_and}
use Rattle.ecd_item_laws.specs.Reading.{many, pairs, item_at}
use Rattle.ecd_item.specs.Told.{seen}
use Rattle.ecd_item.proofs.Loops.{goes_on, ends, is_done, pair_goes_on, key_ends, value_ends, order_ends, pairs_done}
use Rattle.ecd_item.proofs.read.+reading.Goals as goal

pub items_of-returns-in_err-item-clause-gives : goal.items_of-returns-in_err-item-clause-gives
items_of-returns-in_err-item-clause-gives t c =
    let p = err_from_is_err_and c.from_residual.result c.from_residual.ensures.1 in
    rw (p.1, p.2) (ends (item_at c.args.order c.args.depth) c.in_err-item.field-0.0 c.loop.items c.args.count c.loop.counter c.loop.here (drop c.loop.here c.args.bytes.now) (many (item_at c.args.order c.args.depth) c.args.count c.args.at (drop c.args.at c.args.bytes.now)) c.loop-test.true c.in_err-item.ensures.gives c.loop.invariant.gives)

pub items_of-loop-preserved : goal.items_of-loop-preserved
items_of-loop-preserved t c =
    record {
      within = c.in_ok-item.ensures.within;
      after = omega (arith, c.in_ok-item.ensures.after);
      gives = rw c.in_ok-push.ensures.ok (goes_on (item_at c.args.order c.args.depth) c.loop.items c.args.count c.loop.counter c.loop.here (drop c.loop.here c.args.bytes.now) (seen c.args.bytes.now (c.in_ok-item.item, c.in_ok-item.end)) (many (item_at c.args.order c.args.depth) c.args.count c.args.at (drop c.args.at c.args.bytes.now)) c.loop-test.true c.in_ok-item.ensures.gives c.loop.invariant.gives);
    }

pub items_of-returns-clause-gives : goal.items_of-returns-clause-gives
items_of-returns-clause-gives t c = is_done (item_at c.args.order c.args.depth) c.loop.items c.args.count c.loop.counter c.loop.here (drop c.loop.here c.args.bytes.now) (many (item_at c.args.order c.args.depth) c.args.count c.args.at (drop c.args.at c.args.bytes.now)) c.loop-test.false c.loop.invariant.gives

pub pairs_of-returns-in_err-key-clause-gives : goal.pairs_of-returns-in_err-key-clause-gives
pairs_of-returns-in_err-key-clause-gives t c =
    let p = err_from_is_err_and c.from_residual.result c.from_residual.ensures.1 in
    rw (p.1, p.2) (key_ends c.args.order (item_at c.args.order c.args.depth) c.in_err-key.field-0.0 c.loop.pairs (option_copied c.loop.last) c.args.count c.loop.counter c.loop.here (drop c.loop.here c.args.bytes.now) (pairs c.args.order (item_at c.args.order c.args.depth) None c.args.count c.args.at (drop c.args.at c.args.bytes.now)) c.loop-test.true c.in_err-key.ensures.gives c.loop.invariant.gives)

pub pairs_of-returns-then-not-may_follow-clause-gives : goal.pairs_of-returns-then-not-may_follow-clause-gives
pairs_of-returns-then-not-may_follow-clause-gives t c =
    order_ends c.args.order (item_at c.args.order c.args.depth) c.loop.pairs (option_copied c.loop.last) c.args.count c.loop.counter c.loop.here (drop c.loop.here c.args.bytes.now) (seen c.args.bytes.now (c.in_ok-key.key, c.in_ok-key.key_end)) (pairs c.args.order (item_at c.args.order c.args.depth) None c.args.count c.args.at (drop c.args.at c.args.bytes.now)) c.loop-test.true c.in_ok-key.ensures.gives (sym c.if-not-may_follow.ensures) c.loop.invariant.gives

pub pairs_of-returns-in_err-value-clause-gives : goal.pairs_of-returns-in_err-value-clause-gives
pairs_of-returns-in_err-value-clause-gives t c =
    let p = err_from_is_err_and c.from_residual-in_err-value.result c.from_residual-in_err-value.ensures.1 in
    rw (p.1, p.2) (value_ends c.args.order (item_at c.args.order c.args.depth) c.in_err-value.field-0.0 c.loop.pairs (option_copied c.loop.last) c.args.count c.loop.counter c.loop.here (drop c.loop.here c.args.bytes.now) (seen c.args.bytes.now (c.in_ok-key.key, c.in_ok-key.key_end)) (pairs c.args.order (item_at c.args.order c.args.depth) None c.args.count c.args.at (drop c.args.at c.args.bytes.now)) c.loop-test.true c.in_ok-key.ensures.gives (sym c.if-not-may_follow.ensures) c.in_err-value.ensures.gives c.loop.invariant.gives)

pub pairs_of-loop-preserved : goal.pairs_of-loop-preserved
pairs_of-loop-preserved t c =
    record {
      within = c.in_ok-value.ensures.within;
      after = omega (arith, c.in_ok-key.ensures.after, c.in_ok-value.ensures.after);
      gives = rw c.in_ok-push.ensures.ok (pair_goes_on c.args.order (item_at c.args.order c.args.depth) c.loop.pairs (option_copied c.loop.last) c.args.count c.loop.counter c.loop.here (drop c.loop.here c.args.bytes.now) (seen c.args.bytes.now (c.in_ok-key.key, c.in_ok-key.key_end)) (seen c.args.bytes.now (c.in_ok-value.value, c.in_ok-value.end)) (pairs c.args.order (item_at c.args.order c.args.depth) None c.args.count c.args.at (drop c.args.at c.args.bytes.now)) c.loop-test.true c.in_ok-key.ensures.gives (sym c.if-not-may_follow.ensures) c.in_ok-value.ensures.gives c.loop.invariant.gives);
    }

pub pairs_of-returns-clause-gives : goal.pairs_of-returns-clause-gives
pairs_of-returns-clause-gives t c = pairs_done c.args.order (item_at c.args.order c.args.depth) c.loop.pairs (option_copied c.loop.last) c.args.count c.loop.counter c.loop.here (drop c.loop.here c.args.bytes.now) (pairs c.args.order (item_at c.args.order c.args.depth) None c.args.count c.args.at (drop c.args.at c.args.bytes.now)) c.loop-test.false c.loop.invariant.gives
