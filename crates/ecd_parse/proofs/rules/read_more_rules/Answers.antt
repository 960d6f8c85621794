use Rattle.std.proofs.Common.{◌≡◌, ℕ, suc, ◌+◌, ◌-◌, ◌∷◌, [], length, drop, ap, ◌∙◌, arith}
use Rattle.std.proofs.lemmas.List.{length-append, length-drop}
use Rattle.std.proofs.lemmas.Result.{err_from_is_err_and}
use Rattle.ecd_syntax.specs.Marks.{marks}
use Rattle.ecd_syntax.specs.Reading.{taken, many, choice_at, is_more, rule_at, more_rules}
use Rattle.ecd_parse.proofs.Tokens.{length_marks, more_here, none_here, rest_none}
use Rattle.ecd_reading.proofs.Loops.{with_front, goes, done}
use Rattle.ecd_parse.proofs.Loops.{ends}
use Rattle.ecd_parse.proofs.rules.read_more_rules.Goals as goal

pub returns-in_err-rule : goal.returns-in_err-rule
returns-in_err-rule c =
    let p = err_from_is_err_and c.from_residual-in_err-rule.result c.from_residual-in_err-rule.ensures.1 in
    let ms = marks c.args.tokens.now in
    let one = rule_at (choice_at c.args.levels) in
    let here = drop c.loop-here.here ms in
    let fuel : ℕ = suc (suc (length (drop c.args.at ms))) - length c.loop-here.rules in
    rw (p.1, p.2) (ends is_more one ms c.in_err-rule.field-0.0 fuel (fuel - 1) c.loop-here.rules here (more_rules (choice_at c.args.levels) c.args.first (drop c.args.at ms))
    (omega (arith, length-drop c.args.at ms, length_marks c.args.tokens.now, c.loop-here-test.true, c.loop-here.invariant.count))
    (more_here c.args.tokens.now c.loop-here.here c.loop-here-test.true)
    c.in_err-rule.ensures.gives
    c.loop-here.invariant.gives)

pub loop-here-preserved : goal.loop-here-preserved
loop-here-preserved c =
    let ms = marks c.args.tokens.now in
    let one = rule_at (choice_at c.args.levels) in
    let here = drop c.loop-here.here ms in
    let fuel : ℕ = suc (suc (length (drop c.args.at ms))) - length c.loop-here.rules in
    let longer : length c.push-in-loop-here.new.self ≡ length c.loop-here.rules + 1 = ap length c.in_ok-push-2.ensures.ok ∙ length-append c.loop-here.rules (c.in_ok-rule.rule ∷ []) in
    let less : fuel ≡ suc (suc (suc (length (drop c.args.at ms))) - length c.push-in-loop-here.new.self) = omega (arith, length-drop c.args.at ms, length_marks c.args.tokens.now, c.loop-here-test.true, c.loop-here.invariant.count) in
    record {
      within = c.in_ok-rule.ensures.within;
      after = omega (arith, c.in_ok-rule.ensures.after, c.loop-here.invariant.after);
      count = omega (arith, c.in_ok-rule.ensures.after, c.loop-here.invariant.count);
      gives = ap (λ rules. with_front rules (many is_more one (taken []) (suc (suc (length (drop c.args.at ms))) - length c.push-in-loop-here.new.self) (drop c.in_ok-rule.end ms))) c.in_ok-push-2.ensures.ok
          ∙ goes (taken []) is_more one fuel (suc (suc (length (drop c.args.at ms))) - length c.push-in-loop-here.new.self) c.loop-here.rules here (drop c.in_ok-rule.end ms) c.in_ok-rule.rule (more_rules (choice_at c.args.levels) c.args.first (drop c.args.at ms))
          less
          (more_here c.args.tokens.now c.loop-here.here c.loop-here-test.true)
          c.in_ok-rule.ensures.gives
          c.loop-here.invariant.gives;
    }

pub returns : goal.returns
returns c =
    let ms = marks c.args.tokens.now in
    let one = rule_at (choice_at c.args.levels) in
    let here = drop c.loop-here.here ms in
    let fuel : ℕ = suc (suc (length (drop c.args.at ms))) - length c.loop-here.rules in
    done (taken []) is_more one fuel (fuel - 1) c.loop-here.rules here (more_rules (choice_at c.args.levels) c.args.first (drop c.args.at ms))
    (omega (arith, length-drop c.args.at ms, length_marks c.args.tokens.now, c.loop-here.invariant.within, c.loop-here.invariant.count))
    (none_here c.args.tokens.now c.loop-here.here c.loop-here-test.false)
    c.loop-here.invariant.gives
    ∙ ap (λ rest. taken c.loop-here.rules rest) (rest_none c.args.tokens.now c.loop-here.here c.loop-here-test.false)
