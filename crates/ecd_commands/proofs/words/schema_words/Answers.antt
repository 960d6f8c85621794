use Rattle.std.proofs.Common.{arith}
use Rattle.ecd_commands.proofs.Depths.{digits_same}
use Rattle.ecd_commands.proofs.words.schema_words.Goals as goal

pub returns-in_default-clause-none : goal.returns-in_default-clause-none
returns-in_default-clause-none c = λ levels order le e.
    c.in_default.ensures.none levels (omega (arith)) le
    (digits_same c.args.depth.now c.digits_and_order-order.result.0.now c.digits_and_order-order.result.1 levels order le c.digits_and_order-order.ensures.parts c.digits_and_order-order.ensures.whole e)
