use Rattle.std.proofs.Common.{◌≡◌, ℕ, suc, ◌+◌, ◌-◌, ◌∷◌, [], length, drop, ap, ◌∙◌, arith}
use Rattle.std.proofs.lemmas.List.{length-append, length-drop}
use Rattle.std.proofs.lemmas.Result.{err_from_is_err_and}
use Rattle.ecd_lex.specs.declared.token.Sign.TheVariants.{Comma}
use Rattle.ecd_syntax.specs.Marks.{marks, sign_of, name_of}
use Rattle.ecd_syntax.specs.Reading.{many, taken, begins, behind, more_listed, token}
use Rattle.ecd_parse.proofs.Tokens.{length_marks}
use Rattle.ecd_reading.proofs.Loops.{with_front, goes, done}
use Rattle.ecd_parse.proofs.Loops.{ends, sign_here, no_sign_here, behind_sign}
use Rattle.ecd_parse.proofs.rules.read_more_params.Goals as goal

pub returns-in_err-name-clause-gives : goal.returns-in_err-name-clause-gives
returns-in_err-name-clause-gives c =
    let p = err_from_is_err_and c.from_residual-in_err-name.result c.from_residual-in_err-name.ensures.1 in
    let ms = marks c.args.tokens.now in
    let one = token name_of in
    let here = drop c.loop-next.here ms in
    let fuel : ℕ = suc (suc (length (drop c.args.at ms))) - length c.loop-next.params in
    rw (p.1, p.2) (ends (begins (sign_of Comma)) (behind (sign_of Comma) one) ms c.in_err-name.field-0.0 fuel (fuel - 1) c.loop-next.params here (more_listed Comma one c.args.first (drop c.args.at ms))
    (omega (arith, length-drop c.args.at ms, length_marks c.args.tokens.now, c.in-Some.ensures.within, c.loop-next.invariant.count))
    (sign_here ms Comma here c.in-Some.next c.in-Some.ensures.found)
    (rw (behind_sign ms Comma one here c.in-Some.next c.in-Some.ensures.found) c.in_err-name.ensures.gives)
    c.loop-next.invariant.gives)

pub loop-next-preserved : goal.loop-next-preserved
loop-next-preserved c =
    let ms = marks c.args.tokens.now in
    let one = token name_of in
    let here = drop c.loop-next.here ms in
    let fuel : ℕ = suc (suc (length (drop c.args.at ms))) - length c.loop-next.params in
    let longer : length c.push-in-Some.new.self ≡ length c.loop-next.params + 1 = ap length c.in_ok-push-2.ensures.ok ∙ length-append c.loop-next.params (c.in_ok-name.name ∷ []) in
    let less : fuel ≡ suc (suc (suc (length (drop c.args.at ms))) - length c.push-in-Some.new.self) = omega (arith, length-drop c.args.at ms, length_marks c.args.tokens.now, c.in-Some.ensures.within, c.loop-next.invariant.count) in
    record {
      within = c.in_ok-name.ensures.within.0;
      after = omega (arith, c.in-Some.ensures.within, c.in_ok-name.ensures.within, c.loop-next.invariant.after);
      count = omega (arith, c.in-Some.ensures.within, c.in_ok-name.ensures.within, c.loop-next.invariant.count);
      gives = ap (λ params. with_front params (many (begins (sign_of Comma)) (behind (sign_of Comma) one) (taken []) (suc (suc (length (drop c.args.at ms))) - length c.push-in-Some.new.self) (drop c.in_ok-name.end ms))) c.in_ok-push-2.ensures.ok
          ∙ goes (taken []) (begins (sign_of Comma)) (behind (sign_of Comma) one) fuel (suc (suc (length (drop c.args.at ms))) - length c.push-in-Some.new.self) c.loop-next.params here (drop c.in_ok-name.end ms) c.in_ok-name.name (more_listed Comma one c.args.first (drop c.args.at ms))
          less
          (sign_here ms Comma here c.in-Some.next c.in-Some.ensures.found)
          (behind_sign ms Comma one here c.in-Some.next c.in-Some.ensures.found ∙ c.in_ok-name.ensures.gives)
          c.loop-next.invariant.gives;
    }

pub returns-clause-gives : goal.returns-clause-gives
returns-clause-gives c =
    let ms = marks c.args.tokens.now in
    let one = token name_of in
    let here = drop c.loop-next.here ms in
    let fuel : ℕ = suc (suc (length (drop c.args.at ms))) - length c.loop-next.params in
    done (taken []) (begins (sign_of Comma)) (behind (sign_of Comma) one) fuel (fuel - 1) c.loop-next.params here (more_listed Comma one c.args.first (drop c.args.at ms))
    (omega (arith, length-drop c.args.at ms, length_marks c.args.tokens.now, c.loop-next.invariant.within, c.loop-next.invariant.count))
    (no_sign_here ms Comma here c.in_default.ensures.found)
    c.loop-next.invariant.gives
