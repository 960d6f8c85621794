use Rattle.std.specs.Prelude.{codes}
use Rattle.std.proofs.Common.{◌∷◌}
use Rattle.ecd_cast.specs.Spelling.{param_lexemes}
use Rattle.ecd_cprint.proofs.Joins.{grows_then}
use Rattle.ecd_cprint.proofs.Loops.{grows_more, grows_commas}
use Rattle.ecd_cprint.proofs.items.print_params.Goals as goal

pub loop-param-preserved : goal.loop-param-preserved
loop-param-preserved c =
    grows_more (λ q. codes "," ∷ param_lexemes q) _ c.loop-param.param-index c.param-item.result _ _ _ c.loop-param-test.true c.param-item.is c.loop-param.invariant
    (grows_then c.in_ok-put.ensures c.in_ok-print_param-2.ensures)

pub returns : goal.returns
returns c = grows_commas param_lexemes c.args.params.now c.first-item.result c.loop-param.param-index _ _ _ c.in-len1-up.len_at_least c.first-item.is c.in_ok-print_param.ensures c.loop-param-test.false c.loop-param.invariant
