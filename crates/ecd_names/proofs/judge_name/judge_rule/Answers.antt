use Rattle.std.proofs.Common.{take, List, subst}
use Rattle.ecd_syntax.specs.declared.tree.Name.{Name}
use Rattle.ecd_first.specs.Firsts.{offset, Sees}
use Rattle.ecd_names.specs.Parameters.{RepeatsOne}
use Rattle.ecd_names.proofs.Judging.{sees_rule}
use Rattle.ecd_names.proofs.judge_name.judge_rule.Goals as goal

pub returns : goal.returns
returns c =
    let text = c.args.scene.now.table.now in
    sees_rule text (take c.args.scene.now.index text) c.args.scene.now.rule.now _ _ _ _ c.in_ok-judge_name.ensures
    (subst (λ (l : List Name). Sees offset c.judge_name.new.first.broken c.judge_parameters.new.first.broken (RepeatsOne l)) c.as_slice.ensures c.judge_parameters.ensures) c.judge_sites.ensures
