use Rattle.std.proofs.Common.{ℕ, ◌≡◌, true, List, subst, ◌↔◌}
use Rattle.ecd_bodies.specs.Kinds.{IsGroup}
use Rattle.ecd_names.proofs.Judging.{type_more-other}
use Rattle.ecd_names.proofs.judge_name.is_other_assign.Goals as goal

pub returns-in-TypeMore : goal.returns-in-TypeMore
returns-in-TypeMore c =
    type_more-other c.args.scene.now.table.now c.args.scene.now.rule.now c.in-TypeMore.is c.is_group.result
    (subst (λ (n : List ℕ). (c.is_group.result ≡ true) ↔ IsGroup c.args.scene.now.table.now n) c.as_slice-name.ensures c.is_group.ensures)
