use Rattle.ecd_names.proofs.Components.{components-rank}
use Rattle.ecd_names.proofs.Cycles.{never-back}
use Rattle.ecd_names.proofs.Resolving.{none-broken, few-parameters}
use Rattle.ecd_names.proofs.judge.first_broken.Goals as goal

pub returns-clause-ranked : goal.returns-clause-ranked
returns-clause-ranked c = λ none.
    let text = c.args.table.now in
    components-rank text c.in_ok-components.components.items c.in_ok-components.ensures (never-back text (λ place. none-broken text c.judge_rules.new.first.broken c.in_ok-judge_rules.ensures none place 3))

pub returns-clause-few : goal.returns-clause-few
returns-clause-few c = few-parameters c.args.table.now c.in_ok-scopes.scopes.items c.in_ok-scopes.ensures
