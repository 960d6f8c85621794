use Rattle.std.proofs.Common.{◌≡◌, ◌++◌, ◌∷◌, [], drop, length, false, sym, subst}
use Rattle.ecd_lex.specs.Lexemes.{Reads}
use Rattle.ecd_lex.proofs.Readings.{reads_step}
use Rattle.ecd_lex.proofs.text.tokens_of.Goals as goal

pub loop-tokens-preserved : goal.loop-tokens-preserved
loop-tokens-preserved c =
    let stands = rw c.in-Some.is at c.in_ok-token.ensures.token in
    let within = rw c.in-Some.is at c.in_ok-token.ensures.within in
    let read = reads_step c.args.text.now c.loop-tokens.tokens (drop c.loop-tokens.at c.args.text.now) c.in-Some.token (drop c.in-Some.token.end c.args.text.now) c.is_empty.result c.loop-tokens.invariant.0 c.is_empty.ensures stands in
    let pushed : c.push.new.self ≡ c.loop-tokens.tokens ++ c.in-Some.token ∷ [] = c.in_ok-push.ensures.ok in
    (subst (λ t. Reads (length c.args.text.now) false c.args.text.now t (drop c.in-Some.token.end c.args.text.now)) (sym pushed) read, within)
