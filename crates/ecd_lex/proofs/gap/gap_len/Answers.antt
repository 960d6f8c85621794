use Rattle.std.proofs.Common.{arith}
use Rattle.std.proofs.lemmas.Bool.Decides.{nat_tests}
use Rattle.ecd_lex.proofs.Turns.{gap_turn, gap_end}
use Rattle.ecd_lex.proofs.gap.gap_len.Goals as goal
use Rattle.ecd_lex.proofs.gap.gap_len.Goals.{then-comment, else-comment+then-byte-eq59, else-comment+else-byte-eq59+else-not-is_white}

pub returns-then-not-is_white : goal.returns-then-not-is_white
returns-then-not-is_white c =
    let t = gap_turn c.loop-at.comment c.args.text.now c.loop-at.at (omega arith) in
    grind (arith, nat_tests, t)

pub loop-at-preserved : goal.loop-at-preserved
loop-at-preserved c =
    let t = gap_turn c.loop-at.comment c.args.text.now c.loop-at.at (omega arith) in
    elim c.if-comment.branch [
      | then-comment w ↦ grind (arith, nat_tests, t)
      | else-comment+then-byte-eq59 w ↦ grind (arith, nat_tests, t)
      | else-comment+else-byte-eq59+else-not-is_white w ↦ grind (arith, nat_tests, t)
    ]

pub returns : goal.returns
returns c =
    let t = gap_end c.loop-at.comment c.args.text.now c.loop-at.at (omega arith) in
    omega (arith, t)
