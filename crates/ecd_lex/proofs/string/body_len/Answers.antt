use Rattle.std.proofs.Common.{arith}
use Rattle.std.proofs.lemmas.Bool.Decides.{nat_tests}
use Rattle.ecd_lex.proofs.Turns.{body_turn, body_end}
use Rattle.ecd_lex.proofs.string.body_len.Goals as goal
use Rattle.ecd_lex.proofs.string.body_len.Goals.{then-escaped, else-escaped+else-byte-quote}

pub returns-then-not-is_character-clause-value : goal.returns-then-not-is_character-clause-value
returns-then-not-is_character-clause-value c =
    let t = body_turn c.args.quote c.loop-at.escaped c.args.text.now c.loop-at.at (omega arith) in
    grind (arith, nat_tests, t)

pub returns-then-byte-quote-clause-value : goal.returns-then-byte-quote-clause-value
returns-then-byte-quote-clause-value c =
    let t = body_turn c.args.quote c.loop-at.escaped c.args.text.now c.loop-at.at (omega arith) in
    grind (arith, nat_tests, t)

pub loop-at-preserved : goal.loop-at-preserved
loop-at-preserved c =
    let t = body_turn c.args.quote c.loop-at.escaped c.args.text.now c.loop-at.at (omega arith) in
    elim c.if-escaped.branch [
      | then-escaped w ↦ grind (arith, nat_tests, t)
      | else-escaped+else-byte-quote w ↦ grind (arith, nat_tests, t)
    ]

pub returns-clause-value : goal.returns-clause-value
returns-clause-value c =
    let t = body_end c.args.quote c.loop-at.escaped c.args.text.now c.loop-at.at (omega arith) in
    cc
