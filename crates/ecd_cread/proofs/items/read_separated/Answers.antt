use Rattle.std.proofs.Common.{◌≡◌, ℕ, suc, ◌+◌, ◌-◌, ◌∷◌, ◌++◌, [], length, drop, ap, ◌∙◌, arith}
use Rattle.std.specs.Prelude.{codes}
use Rattle.std.proofs.lemmas.List.{length-append}
use Rattle.std.proofs.lemmas.Result.{err_from_is_err_and}
use Rattle.ecd_cgrammar.specs.Reading.{same, begins, expect, deep, many, separated, param_at}
use Rattle.ecd_clex.specs.Tokens.{lexemes}
use Rattle.ecd_reading.proofs.Loops.{with_front, goes, done}
use Rattle.ecd_cread.proofs.Loops.{ends, first_is, first_fails, comma_here, no_comma_here, behind_comma}
use Rattle.ecd_cread.proofs.items.read_separated.Goals as goal

pub returns-in_err-first-clause-gives : goal.returns-in_err-first-clause-gives
unfolding separated
returns-in_err-first-clause-gives c =
    let ms = lexemes c.args.text.now c.args.tokens.now in
    let one = param_at in
    let size : ℕ = suc (length c.args.tokens.now) in
    let test = begins (same (codes ",")) in
    let next = expect (codes ",") one in
    let p = err_from_is_err_and c.from_residual.result c.from_residual.ensures.1 in
    rw (p.1, p.2) (first_fails test next one size ms c.in_err-first.field-0.0 (drop c.args.at ms) c.in_err-first.ensures.gives)

pub loop-next-init : goal.loop-next-init
unfolding separated
loop-next-init c =
    let ms = lexemes c.args.text.now c.args.tokens.now in
    let one = param_at in
    let size : ℕ = suc (length c.args.tokens.now) in
    let test = begins (same (codes ",")) in
    let next = expect (codes ",") one in
    let whole : c.push.new.self ≡ c.in_ok-first.first ∷ [] = c.in_ok-push.ensures.ok ∙ ap (λ xs. xs ++ c.in_ok-first.first ∷ []) c.new-params.ensures in
    let alone : length c.push.new.self ≡ 1 = ap length whole in
    let fuel : suc size - length c.push.new.self ≡ size = omega (arith, alone) in
    record {
      within = c.in_ok-first.ensures.within;
      after = c.in_ok-first.ensures.after;
      count = omega (arith, alone, c.in_ok-first.ensures.after);
      gives = ap (λ xs. with_front xs (many test next deep (suc size - length c.push.new.self) (drop c.in_ok-first.behind ms))) whole
          ∙ ap (λ (n : ℕ). with_front (c.in_ok-first.first ∷ []) (many test next deep n (drop c.in_ok-first.behind ms))) fuel
          ∙ first_is test next one size c.in_ok-first.first (drop c.args.at ms) (drop c.in_ok-first.behind ms) c.in_ok-first.ensures.gives;
    }

pub returns-in_err-param-clause-gives : goal.returns-in_err-param-clause-gives
returns-in_err-param-clause-gives c =
    let ms = lexemes c.args.text.now c.args.tokens.now in
    let one = param_at in
    let size : ℕ = suc (length c.args.tokens.now) in
    let test = begins (same (codes ",")) in
    let next = expect (codes ",") one in
    let here = drop c.loop-next.here ms in
    let total = separated one size (drop c.args.at ms) in
    let fuel : ℕ = suc size - length c.loop-next.params in
    let p = err_from_is_err_and c.from_residual-in_err-param.result c.from_residual-in_err-param.ensures.1 in
    rw (p.1, p.2) (ends test next ms c.in_err-param.field-0.0 fuel (fuel - 1) c.loop-next.params here total
    (omega (arith, c.in-Some.ensures.within, c.loop-next.invariant.count))
    (comma_here ms here c.in-Some.next c.in-Some.ensures.found)
    (rw (behind_comma ms one here c.in-Some.next c.in-Some.ensures.found) c.in_err-param.ensures.gives)
    c.loop-next.invariant.gives)

pub loop-next-preserved : goal.loop-next-preserved
loop-next-preserved c =
    let ms = lexemes c.args.text.now c.args.tokens.now in
    let one = param_at in
    let size : ℕ = suc (length c.args.tokens.now) in
    let test = begins (same (codes ",")) in
    let next = expect (codes ",") one in
    let here = drop c.loop-next.here ms in
    let total = separated one size (drop c.args.at ms) in
    let fuel : ℕ = suc size - length c.loop-next.params in
    let longer : length c.push-in-Some.new.self ≡ length c.loop-next.params + 1 = ap length c.in_ok-push-2.ensures.ok ∙ length-append c.loop-next.params (c.in_ok-param.param ∷ []) in
    let less : fuel ≡ suc (suc size - length c.push-in-Some.new.self) = omega (arith, longer, c.in-Some.ensures.within, c.loop-next.invariant.count) in
    record {
      within = c.in_ok-param.ensures.within;
      after = omega (arith, c.in-Some.ensures.within, c.in_ok-param.ensures.after, c.loop-next.invariant.after);
      count = omega (arith, longer, c.in-Some.ensures.within, c.in_ok-param.ensures.after, c.loop-next.invariant.count);
      gives = ap (λ xs. with_front xs (many test next deep (suc size - length c.push-in-Some.new.self) (drop c.in_ok-param.behind ms))) c.in_ok-push-2.ensures.ok
          ∙ goes deep test next fuel (suc size - length c.push-in-Some.new.self) c.loop-next.params here (drop c.in_ok-param.behind ms) c.in_ok-param.param total
          less
          (comma_here ms here c.in-Some.next c.in-Some.ensures.found)
          (behind_comma ms one here c.in-Some.next c.in-Some.ensures.found ∙ c.in_ok-param.ensures.gives)
          c.loop-next.invariant.gives;
    }

pub returns-clause-gives : goal.returns-clause-gives
returns-clause-gives c =
    let ms = lexemes c.args.text.now c.args.tokens.now in
    let one = param_at in
    let size : ℕ = suc (length c.args.tokens.now) in
    let test = begins (same (codes ",")) in
    let next = expect (codes ",") one in
    let here = drop c.loop-next.here ms in
    let total = separated one size (drop c.args.at ms) in
    let fuel : ℕ = suc size - length c.loop-next.params in
    done deep test next fuel (fuel - 1) c.loop-next.params here total
    (omega (arith, c.loop-next.invariant.within, c.loop-next.invariant.count))
    (no_comma_here ms here c.in_default.ensures.found)
    c.loop-next.invariant.gives
