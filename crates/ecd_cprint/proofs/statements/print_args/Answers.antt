use Rattle.std.specs.Prelude.{codes}
use Rattle.std.proofs.Common.{◌∷◌}
use Rattle.ecd_cast.specs.Spelling.{expr_lexemes}
use Rattle.ecd_cprint.proofs.Joins.{grows_then}
use Rattle.ecd_cprint.proofs.Loops.{grows_more, grows_commas}
use Rattle.ecd_cprint.proofs.statements.print_args.Goals as goal

pub loop-arg-preserved : goal.loop-arg-preserved
loop-arg-preserved c =
    grows_more (λ e. codes "," ∷ expr_lexemes e) _ c.loop-arg.arg-index c.arg-item.result _ _ _ c.loop-arg-test.true c.arg-item.is c.loop-arg.invariant
    (grows_then c.in_ok-put.ensures c.in_ok-print_expr-2.ensures)

pub returns : goal.returns
returns c = grows_commas expr_lexemes c.args.args.now c.first-item.result c.loop-arg.arg-index _ _ _ c.in-len1-up.len_at_least c.first-item.is c.in_ok-print_expr.ensures c.loop-arg-test.false c.loop-arg.invariant
