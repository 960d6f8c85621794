use Rattle.std.proofs.Common.{◌∙◌, ap, [], map, take}
use Rattle.std.specs.Prelude.{not}
use Rattle.ecd_cast.specs.declared.tree.CellInfo.{CellInfo}
use Rattle.ecd_cast.specs.Kinds.{unless}
use Rattle.ecd_cast.specs.Meaning.{Place}
use Rattle.ecd_cast.specs.Validity.{twice, head_names, struct_names, is_among}
use Rattle.ecd_cjudge.proofs.Taking.{all_then, all_same, finds_same}
use Rattle.ecd_cjudge.proofs.NameLayers.{holds_none}
use Rattle.ecd_cjudge.proofs.judge_item.judge_struct.Goals as goal

pub returns : goal.returns
returns c =
    let around = c.args.around.now in
    let head : Place = record { item = around.at_; statement = 0 } in
    let name = finds_same (ap (λ b. unless (not b) 6) (c.knows_struct-is_known.ensures ∙ ap (is_among (struct_names (take around.at_ around.items.now))) c.as_slice.ensures)) c.unless.ensures in
    let cells = all_same (λ j. twice [] (head_names head (map (λ (k : CellInfo). k.name) (c.as_slice-2.ensures j)))) (c.in_ok-name_cells.ensures.sees [] (holds_none c.new-names.result c.new-names.ensures.empty)) in
    all_then name.sees cells
