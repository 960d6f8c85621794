use Rattle.std.proofs.Common.{◌≡◌, ℕ, suc, ◌+◌, ◌-◌, ◌∷◌, [], length, drop, ap, sym, ◌∙◌, arith}
use Rattle.std.specs.Prelude.{codes, not}
use Rattle.std.proofs.lemmas.List.{length-append}
use Rattle.std.proofs.lemmas.Result.{err_from_is_err_and}
use Rattle.ecd_cgrammar.specs.Reading.{is_before, deep, many, stmt_at}
use Rattle.ecd_clex.specs.Tokens.{lexemes}
use Rattle.ecd_reading.proofs.Loops.{with_front, goes, done}
use Rattle.ecd_cread.proofs.Loops.{ends}
use Rattle.ecd_cread.proofs.statements.+statements.Goals as goal

pub read_statements-returns-in_err-statement-clause-gives : goal.read_statements-returns-in_err-statement-clause-gives
read_statements-returns-in_err-statement-clause-gives t c =
    let ms = lexemes c.args.text.now c.args.tokens.now in
    let size : ℕ = suc (length c.args.tokens.now) in
    let one = stmt_at size c.args.levels in
    let test = is_before (codes "}") in
    let here = drop c.loop-alloc.here ms in
    let total = many test one deep size (drop c.args.at ms) in
    let fuel : ℕ = size - length c.loop-alloc.statements in
    let p = err_from_is_err_and c.from_residual.result c.from_residual.ensures.1 in
    rw (p.1, p.2) (ends test one ms c.in_err-statement.field-0.0 fuel (fuel - 1) c.loop-alloc.statements here total
    (omega (arith, c.loop-alloc.invariant.within, c.loop-alloc.invariant.count))
    (ap not (sym c.is_here.ensures ∙ c.loop-alloc-test.true))
    c.in_err-statement.ensures.gives
    c.loop-alloc.invariant.gives)

pub read_statements-loop-alloc-preserved : goal.read_statements-loop-alloc-preserved
read_statements-loop-alloc-preserved t c =
    let ms = lexemes c.args.text.now c.args.tokens.now in
    let size : ℕ = suc (length c.args.tokens.now) in
    let one = stmt_at size c.args.levels in
    let test = is_before (codes "}") in
    let here = drop c.loop-alloc.here ms in
    let total = many test one deep size (drop c.args.at ms) in
    let fuel : ℕ = size - length c.loop-alloc.statements in
    let longer : length c.push.new.self ≡ length c.loop-alloc.statements + 1 = ap length c.in_ok-push.ensures.ok ∙ length-append c.loop-alloc.statements (c.in_ok-statement.statement ∷ []) in
    let less : fuel ≡ suc (size - length c.push.new.self) = omega (arith, longer, c.loop-alloc.invariant.within, c.loop-alloc.invariant.count) in
    record {
      within = c.in_ok-statement.ensures.within;
      after = omega (arith, c.in_ok-statement.ensures.after, c.loop-alloc.invariant.after);
      count = omega (arith, longer, c.in_ok-statement.ensures.after, c.loop-alloc.invariant.count);
      gives = ap (λ xs. with_front xs (many test one deep (size - length c.push.new.self) (drop c.in_ok-statement.behind ms))) c.in_ok-push.ensures.ok
          ∙ goes deep test one fuel (size - length c.push.new.self) c.loop-alloc.statements here (drop c.in_ok-statement.behind ms) c.in_ok-statement.statement total
          less
          (ap not (sym c.is_here.ensures ∙ c.loop-alloc-test.true))
          c.in_ok-statement.ensures.gives
          c.loop-alloc.invariant.gives;
    }

pub read_statements-returns-clause-gives : goal.read_statements-returns-clause-gives
read_statements-returns-clause-gives t c =
    let ms = lexemes c.args.text.now c.args.tokens.now in
    let size : ℕ = suc (length c.args.tokens.now) in
    let one = stmt_at size c.args.levels in
    let test = is_before (codes "}") in
    let here = drop c.loop-alloc.here ms in
    let total = many test one deep size (drop c.args.at ms) in
    let fuel : ℕ = size - length c.loop-alloc.statements in
    done deep test one fuel (fuel - 1) c.loop-alloc.statements here total
    (omega (arith, c.loop-alloc.invariant.within, c.loop-alloc.invariant.count))
    (ap not (sym c.is_here.ensures ∙ c.loop-alloc-test.false))
    c.loop-alloc.invariant.gives
