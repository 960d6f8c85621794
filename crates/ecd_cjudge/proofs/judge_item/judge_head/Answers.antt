use Rattle.std.proofs.Common.{◌∙◌, ap, take}
use Rattle.std.specs.Prelude.{flat_map, not}
use Rattle.ecd_cast.specs.declared.tree.Param.{Param}
use Rattle.ecd_cast.specs.Kinds.{unless}
use Rattle.ecd_cast.specs.Validity.{param_broken, struct_names, function_names, is_among, block_returns}
use Rattle.ecd_cjudge.proofs.Taking.{finds_then, finds_same}
use Rattle.ecd_cjudge.proofs.judge_item.judge_head.Goals as goal

pub returns : goal.returns
returns c =
    let before = take c.args.around.now.at_ c.args.around.now.items.now in
    let params = finds_same (λ j. flat_map (λ (q : Param). param_broken (struct_names before) q.kind) (c.as_slice.ensures j)) c.judge_params.ensures in
    let ends = finds_same (ap (λ b. unless b 5) (c.in_ok-ends.ensures ∙ ap block_returns c.as_slice-2.ensures)) c.unless.ensures in
    let twice = finds_same (ap (λ b. unless (not b) 6) (c.knows_function-is_known.ensures ∙ ap (is_among (function_names before)) c.as_slice-3.ensures)) c.unless-2.ensures in
    finds_then (finds_then params ends) twice
