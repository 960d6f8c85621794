use Rattle.std.proofs.Common.{arith}
use Rattle.std.proofs.lemmas.Bool.Decides.{nat_tests}
use Rattle.ecd_lex.proofs.Turns.{name_turn, name_end}
use Rattle.ecd_lex.proofs.name.name_rest.Goals as goal
use Rattle.ecd_lex.proofs.name.name_rest.Goals.{then-is_name_byte, else-is_name_byte+else-not-is_link}

pub returns-then-not-is_link-clause-value : goal.returns-then-not-is_link-clause-value
returns-then-not-is_link-clause-value c =
    let t = name_turn c.args.text.now c.loop-at.at (omega arith) in
    grind (arith, nat_tests, t)

pub loop-at-preserved : goal.loop-at-preserved
loop-at-preserved c =
    let t = name_turn c.args.text.now c.loop-at.at (omega arith) in
    elim c.if-is_name_byte.branch [
      | then-is_name_byte w ↦ (grind (arith, nat_tests, t), omega arith)
      | else-is_name_byte+else-not-is_link w ↦ (grind (arith, nat_tests, t), omega arith)
    ]

pub returns-clause-value : goal.returns-clause-value
returns-clause-value c =
    let t = name_end c.args.text.now c.loop-at.at (omega arith) in
    grind (arith, nat_tests, t)
