use Rattle.std.proofs.Common.{arith}
use Rattle.ecd_lex.specs.declared.number.TheConstants.{TOO_LARGE}
use Rattle.ecd_lex.proofs.Numbers.{number_turn, number_end}
use Rattle.ecd_lex.proofs.number.number_of.Goals as goal

pub loop-digit-preserved : goal.loop-digit-preserved
loop-digit-preserved c =
    let t = number_turn c.args.radix c.args.digits.now c.loop-digit.digit-index c.loop-digit.number TOO_LARGE (omega arith) in
    (omega arith, omega arith, omega arith, grind (arith, t))

pub returns : goal.returns
returns c =
    let t = number_end c.args.radix c.args.digits.now c.loop-digit.digit-index c.loop-digit.number (omega arith) in
    omega (arith, t)
