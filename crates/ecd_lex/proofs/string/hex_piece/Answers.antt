use Rattle.std.proofs.Common.{arith, ap, get_or}
use Rattle.ecd_lex.specs.Scan.{placed}
use Rattle.ecd_lex.proofs.Bodies.{hex_blank, hex_bad, hex_first, hex_second, hex_digit_some, hex_digit_none}
use Rattle.ecd_lex.proofs.string.hex_piece.Goals as goal

pub returns-then-is_hex_space-clause-ok : goal.returns-then-is_hex_space-clause-ok
returns-then-is_hex_space-clause-ok c =
    let p = hex_blank c.args.first c.args.body.now c.args.bytes.now c.args.at (omega arith) (grind arith) in
    grind (arith, p)

pub returns-in_default-clause-err : goal.returns-in_default-clause-err
returns-in_default-clause-err c =
    let d = hex_digit_none (get_or c.args.body.now c.args.at 0) (grind arith) in
    let p = hex_bad c.args.first c.args.body.now c.args.bytes.now c.args.at (omega arith) (grind arith) d in
    grind (arith, ap (placed 2 5) p)

pub returns-in_default-first-clause-ok : goal.returns-in_default-first-clause-ok
returns-in_default-first-clause-ok c =
    let d = hex_digit_some (get_or c.args.body.now c.args.at 0) c.in-Some.digit (grind arith) in
    let p = hex_first c.args.body.now c.args.bytes.now c.args.at (omega arith) (grind arith) d.0 in
    grind (arith, p, d.1)

pub returns-clause-ok : goal.returns-clause-ok
returns-clause-ok c =
    let d = hex_digit_some (get_or c.args.body.now c.args.at 0) c.in-Some.digit (grind arith) in
    let p = hex_second c.in-Some-first.value c.args.body.now c.args.bytes.now c.args.at (omega arith) (grind arith) d.0 in
    grind (arith, p, d.1)
