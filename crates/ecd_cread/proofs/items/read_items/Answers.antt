use Rattle.std.proofs.Common.{◌≡◌, ℕ, suc, ◌+◌, ◌-◌, ◌∷◌, [], length, drop, ap, ◌∙◌, arith}
use Rattle.std.proofs.lemmas.List.{length-append}
use Rattle.std.proofs.lemmas.Result.{err_from_is_err_and}
use Rattle.ecd_cgrammar.specs.Reading.{taken, is_more, deep, many, stmt_at, item_at}
use Rattle.ecd_clex.specs.Tokens.{lexemes}
use Rattle.ecd_clex.proofs.Tokens.{more_here, none_here, rest_none}
use Rattle.ecd_reading.proofs.Loops.{with_front, goes, done}
use Rattle.ecd_cread.proofs.Loops.{ends}
use Rattle.ecd_cread.proofs.items.read_items.Goals as goal

pub returns-in_err-item : goal.returns-in_err-item
returns-in_err-item c =
    let ms = lexemes c.args.text.now c.args.tokens.now in
    let size : ℕ = suc (length c.args.tokens.now) in
    let one = item_at size (stmt_at size c.args.levels) in
    let here = drop c.loop-here.here ms in
    let total = many is_more one deep size (drop c.args.at ms) in
    let fuel : ℕ = size - length c.loop-here.items in
    let p = err_from_is_err_and c.from_residual.result c.from_residual.ensures.1 in
    rw (p.1, p.2) (ends is_more one ms c.in_err-item.field-0.0 fuel (fuel - 1) c.loop-here.items here total
    (omega (arith, c.loop-here-test.true, c.loop-here.invariant.count))
    (more_here c.args.text.now c.args.tokens.now c.loop-here.here c.loop-here-test.true)
    c.in_err-item.ensures.gives
    c.loop-here.invariant.gives)

pub loop-here-preserved : goal.loop-here-preserved
loop-here-preserved c =
    let ms = lexemes c.args.text.now c.args.tokens.now in
    let size : ℕ = suc (length c.args.tokens.now) in
    let one = item_at size (stmt_at size c.args.levels) in
    let here = drop c.loop-here.here ms in
    let total = many is_more one deep size (drop c.args.at ms) in
    let fuel : ℕ = size - length c.loop-here.items in
    let longer : length c.push.new.self ≡ length c.loop-here.items + 1 = ap length c.in_ok-push.ensures.ok ∙ length-append c.loop-here.items (c.in_ok-item.item ∷ []) in
    let less : fuel ≡ suc (size - length c.push.new.self) = omega (arith, longer, c.loop-here-test.true, c.loop-here.invariant.count) in
    record {
      within = c.in_ok-item.ensures.within;
      after = omega (arith, c.in_ok-item.ensures.after, c.loop-here.invariant.after);
      count = omega (arith, longer, c.in_ok-item.ensures.after, c.loop-here.invariant.count);
      gives = ap (λ xs. with_front xs (many is_more one deep (size - length c.push.new.self) (drop c.in_ok-item.behind ms))) c.in_ok-push.ensures.ok
          ∙ goes deep is_more one fuel (size - length c.push.new.self) c.loop-here.items here (drop c.in_ok-item.behind ms) c.in_ok-item.item total
          less
          (more_here c.args.text.now c.args.tokens.now c.loop-here.here c.loop-here-test.true)
          c.in_ok-item.ensures.gives
          c.loop-here.invariant.gives;
    }

pub returns : goal.returns
returns c =
    let ms = lexemes c.args.text.now c.args.tokens.now in
    let size : ℕ = suc (length c.args.tokens.now) in
    let one = item_at size (stmt_at size c.args.levels) in
    let here = drop c.loop-here.here ms in
    let total = many is_more one deep size (drop c.args.at ms) in
    let fuel : ℕ = size - length c.loop-here.items in
    done deep is_more one fuel (fuel - 1) c.loop-here.items here total
    (omega (arith, c.loop-here.invariant.within, c.loop-here.invariant.count))
    (none_here c.args.text.now c.args.tokens.now c.loop-here.here c.loop-here-test.false)
    c.loop-here.invariant.gives
    ∙ ap (λ rest. taken c.loop-here.items rest) (rest_none c.args.text.now c.args.tokens.now c.loop-here.here c.loop-here-test.false)
