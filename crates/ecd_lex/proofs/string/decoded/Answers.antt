use Rattle.std.proofs.Common.{arith, sym, ◌∙◌, ap}
use Rattle.ecd_lex.specs.Scan.{placed}
use Rattle.ecd_lex.proofs.Bodies.{pieces_end}
use Rattle.ecd_lex.proofs.string.decoded.Goals as goal

pub returns : goal.returns
returns c =
    ap (placed 1 3) (sym c.loop-at.invariant ∙ pieces_end c.args.quote c.args.body.now c.loop-at.bytes c.loop-at.at (omega arith))
