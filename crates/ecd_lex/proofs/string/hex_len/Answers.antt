use Rattle.std.proofs.Common.{arith}
use Rattle.std.proofs.lemmas.Bool.Decides.{nat_tests}
use Rattle.ecd_lex.proofs.Turns.{hex_turn, hex_end}
use Rattle.ecd_lex.proofs.string.hex_len.Goals as goal
use Rattle.ecd_lex.proofs.string.hex_len.Goals.{then-returned+else-byte-ne10, else-returned+else-byte-eq39+then-byte-eq13, else-returned+else-byte-eq39+else-byte-eq13+else-not-is_hex_character}

pub returns-then-byte-ne10-clause-value : goal.returns-then-byte-ne10-clause-value
returns-then-byte-ne10-clause-value c =
    let t = hex_turn c.loop-at.returned c.args.text.now c.loop-at.at (omega arith) in
    grind (arith, nat_tests, t)

pub returns-then-byte-eq39-clause-value : goal.returns-then-byte-eq39-clause-value
returns-then-byte-eq39-clause-value c =
    let t = hex_turn c.loop-at.returned c.args.text.now c.loop-at.at (omega arith) in
    grind (arith, nat_tests, t)

pub returns-then-not-is_hex_character-clause-value : goal.returns-then-not-is_hex_character-clause-value
returns-then-not-is_hex_character-clause-value c =
    let t = hex_turn c.loop-at.returned c.args.text.now c.loop-at.at (omega arith) in
    grind (arith, nat_tests, t)

pub loop-at-preserved : goal.loop-at-preserved
loop-at-preserved c =
    let t = hex_turn c.loop-at.returned c.args.text.now c.loop-at.at (omega arith) in
    elim c.if-returned.branch [
      | then-returned+else-byte-ne10 w ↦ grind (arith, nat_tests, t)
      | else-returned+else-byte-eq39+then-byte-eq13 w ↦ grind (arith, nat_tests, t)
      | else-returned+else-byte-eq39+else-byte-eq13+else-not-is_hex_character w ↦ grind (arith, nat_tests, t)
    ]

pub returns-clause-value : goal.returns-clause-value
returns-clause-value c =
    let t = hex_end c.loop-at.returned c.args.text.now c.loop-at.at (omega arith) in
    cc
