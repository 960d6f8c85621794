use Rattle.std.proofs.Common.{◌≡◌, ℕ, suc, ◌+◌, ◌-◌, ◌∷◌, ◌++◌, [], length, drop, ap, sym, ◌∙◌, arith}
use Rattle.std.specs.Prelude.{codes, not}
use Rattle.std.proofs.lemmas.List.{length-append}
use Rattle.std.proofs.lemmas.Result.{err_from_is_err_and}
use Rattle.ecd_cgrammar.specs.Reading.{is_before, deep, many, cell_at, cells_at}
use Rattle.ecd_clex.specs.Tokens.{lexemes}
use Rattle.ecd_reading.proofs.Loops.{with_front, goes, done}
use Rattle.ecd_cread.proofs.Loops.{ends, first_is, first_fails}
use Rattle.ecd_cread.proofs.items.read_cells.Goals as goal

pub returns-in_err-first-clause-gives : goal.returns-in_err-first-clause-gives
unfolding cells_at
returns-in_err-first-clause-gives c =
    let ms = lexemes c.args.text.now c.args.tokens.now in
    let size : ℕ = suc (length c.args.tokens.now) in
    let test = is_before (codes "}") in
    let p = err_from_is_err_and c.from_residual.result c.from_residual.ensures.1 in
    rw (p.1, p.2) (first_fails test cell_at cell_at size ms c.in_err-first.field-0.0 (drop c.args.at ms) c.in_err-first.ensures.gives)

pub loop-alloc-init : goal.loop-alloc-init
unfolding cells_at
loop-alloc-init c =
    let ms = lexemes c.args.text.now c.args.tokens.now in
    let size : ℕ = suc (length c.args.tokens.now) in
    let test = is_before (codes "}") in
    let whole : c.push.new.self ≡ c.in_ok-first.first ∷ [] = c.in_ok-push.ensures.ok ∙ ap (λ xs. xs ++ c.in_ok-first.first ∷ []) c.new-cells.ensures in
    let alone : length c.push.new.self ≡ 1 = ap length whole in
    let fuel : suc size - length c.push.new.self ≡ size = omega (arith, alone) in
    record {
      within = c.in_ok-first.ensures.within;
      after = c.in_ok-first.ensures.after;
      count = omega (arith, alone, c.in_ok-first.ensures.after);
      gives = ap (λ xs. with_front xs (many test cell_at deep (suc size - length c.push.new.self) (drop c.in_ok-first.behind ms))) whole
          ∙ ap (λ (n : ℕ). with_front (c.in_ok-first.first ∷ []) (many test cell_at deep n (drop c.in_ok-first.behind ms))) fuel
          ∙ first_is test cell_at cell_at size c.in_ok-first.first (drop c.args.at ms) (drop c.in_ok-first.behind ms) c.in_ok-first.ensures.gives;
    }

pub returns-in_err-cell-clause-gives : goal.returns-in_err-cell-clause-gives
returns-in_err-cell-clause-gives c =
    let ms = lexemes c.args.text.now c.args.tokens.now in
    let size : ℕ = suc (length c.args.tokens.now) in
    let test = is_before (codes "}") in
    let here = drop c.loop-alloc.here ms in
    let total = cells_at size (drop c.args.at ms) in
    let fuel : ℕ = suc size - length c.loop-alloc.cells in
    let p = err_from_is_err_and c.from_residual-in_err-cell.result c.from_residual-in_err-cell.ensures.1 in
    rw (p.1, p.2) (ends test cell_at ms c.in_err-cell.field-0.0 fuel (fuel - 1) c.loop-alloc.cells here total
    (omega (arith, c.loop-alloc.invariant.within, c.loop-alloc.invariant.count))
    (ap not (sym c.is_here.ensures ∙ c.loop-alloc-test.true))
    c.in_err-cell.ensures.gives
    c.loop-alloc.invariant.gives)

pub loop-alloc-preserved : goal.loop-alloc-preserved
loop-alloc-preserved c =
    let ms = lexemes c.args.text.now c.args.tokens.now in
    let size : ℕ = suc (length c.args.tokens.now) in
    let test = is_before (codes "}") in
    let here = drop c.loop-alloc.here ms in
    let total = cells_at size (drop c.args.at ms) in
    let fuel : ℕ = suc size - length c.loop-alloc.cells in
    let longer : length c.push-in-loop-alloc.new.self ≡ length c.loop-alloc.cells + 1 = ap length c.in_ok-push-2.ensures.ok ∙ length-append c.loop-alloc.cells (c.in_ok-cell.cell ∷ []) in
    let less : fuel ≡ suc (suc size - length c.push-in-loop-alloc.new.self) = omega (arith, longer, c.loop-alloc.invariant.within, c.loop-alloc.invariant.count) in
    record {
      within = c.in_ok-cell.ensures.within;
      after = omega (arith, c.in_ok-cell.ensures.after, c.loop-alloc.invariant.after);
      count = omega (arith, longer, c.in_ok-cell.ensures.after, c.loop-alloc.invariant.count);
      gives = ap (λ xs. with_front xs (many test cell_at deep (suc size - length c.push-in-loop-alloc.new.self) (drop c.in_ok-cell.behind ms))) c.in_ok-push-2.ensures.ok
          ∙ goes deep test cell_at fuel (suc size - length c.push-in-loop-alloc.new.self) c.loop-alloc.cells here (drop c.in_ok-cell.behind ms) c.in_ok-cell.cell total
          less
          (ap not (sym c.is_here.ensures ∙ c.loop-alloc-test.true))
          c.in_ok-cell.ensures.gives
          c.loop-alloc.invariant.gives;
    }

pub returns-clause-gives : goal.returns-clause-gives
returns-clause-gives c =
    let ms = lexemes c.args.text.now c.args.tokens.now in
    let size : ℕ = suc (length c.args.tokens.now) in
    let test = is_before (codes "}") in
    let here = drop c.loop-alloc.here ms in
    let total = cells_at size (drop c.args.at ms) in
    let fuel : ℕ = suc size - length c.loop-alloc.cells in
    done deep test cell_at fuel (fuel - 1) c.loop-alloc.cells here total
    (omega (arith, c.loop-alloc.invariant.within, c.loop-alloc.invariant.count))
    (ap not (sym c.is_here.ensures ∙ c.loop-alloc-test.false))
    c.loop-alloc.invariant.gives
