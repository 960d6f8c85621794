use Rattle.std.proofs.Common.{◌∙◌, ap, [], ◌++◌, map}
use Rattle.ecd_cast.specs.declared.tree.Param.{Param}
use Rattle.ecd_cast.specs.Meaning.{Place}
use Rattle.ecd_cast.specs.Validity.{twice, named_in, head_names, block_faults, params_known}
use Rattle.ecd_cscope.specs.Surroundings.{around_as}
use Rattle.ecd_cjudge.proofs.Taking.{all_then, all_same}
use Rattle.ecd_cjudge.proofs.NameLayers.{named_then, holds_none}
use Rattle.ecd_cjudge.proofs.judge_item.judge_function.Goals as goal

pub returns : goal.returns
returns c =
    let around = c.args.around.now in
    let head : Place = record { item = around.at_; statement = 0 } in
    let begin : Place = record { item = around.at_; statement = 1 } in
    let named = named_then c.in_ok-name_params.ensures c.in_ok-name_block.ensures.named in
    let names = all_same (λ j. twice [] (head_names head (map (λ (q : Param). q.name) (c.as_slice.ensures j)) ++ named_in (c.as_slice-2.ensures j) begin)) (named.sees [] (holds_none c.new-names.result c.new-names.ensures.empty)) in
    let known = c.in_ok-scope.ensures.known ∙ ap params_known c.as_slice-3.ensures in
    let body = all_same (λ j. block_faults (around_as around (c.in_ok-scope.ensures.loops j)) (known j) (c.as_slice-4.ensures j) begin) c.in_ok-judge_block.ensures.faults in
    all_then (all_then c.in_ok-judge_head.ensures.sees names) body
