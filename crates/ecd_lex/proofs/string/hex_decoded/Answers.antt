use Rattle.std.proofs.Common.{arith, ap}
use Rattle.ecd_lex.specs.Scan.{placed}
use Rattle.ecd_lex.proofs.Bodies.{hex_end, hex_left}
use Rattle.ecd_lex.proofs.string.hex_decoded.Goals as goal

pub returns-in-None : goal.returns-in-None
returns-in-None c =
    let p = hex_end c.args.body.now c.loop-at.bytes c.loop-at.at (omega arith) in
    grind (arith, ap (placed 2 5) p)

pub returns-in-Some : goal.returns-in-Some
returns-in-Some c =
    let p = hex_left c.in-Some.field-0 c.args.body.now c.loop-at.bytes c.loop-at.at (omega arith) in
    grind (arith, ap (placed 2 5) p)
