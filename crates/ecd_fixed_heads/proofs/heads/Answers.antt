-- The functions are valid one behind the other, and stand behind the old items at the end.
use Rattle.std.proofs.Common.{◌≡◌, ◌++◌, sym, subst}
use Rattle.ecd_fixed_heads.specs.Heads.{head_functions}
use Rattle.ecd_fixed_heads.specs.Standing.{HeadsAreThere, HeadsMean}
use Rattle.ecd_fixed_heads.proofs.Valid.{be16_spelled, be32_spelled, be64_spelled, size_spelled, least_spelled, argument_spelled, end_spelled, within_spelled}
use Rattle.ecd_fixed_heads.proofs.Placed.{valid_1, valid_2, valid_3, valid_4, valid_5, valid_6, valid_7, valid_8, heads_are_there, heads_mean}
use Rattle.ecd_emit.proofs.Placed.{list_valid, list_spelled, list_put}
use Rattle.ecd_fixed_heads.proofs.heads.Goals as goal

pub extend-requires-clause-valid : goal.extend-requires-clause-valid
extend-requires-clause-valid c =
    let old = c.args.builder.now in
    list_valid old head_functions c.in_ok-head_items.field-0 c.in_ok-head_items.ensures (valid_1 old c.requires, (valid_2 old c.requires, (valid_3 old c.requires, (valid_4 old c.requires, (valid_5 old c.requires, (valid_6 old c.requires, (valid_7 old c.requires, (valid_8 old c.requires, tt))))))))

pub extend-requires-clause-spelled : goal.extend-requires-clause-spelled
extend-requires-clause-spelled c = list_spelled head_functions c.in_ok-head_items.field-0 c.in_ok-head_items.ensures (be16_spelled, (be32_spelled, (be64_spelled, (size_spelled, (least_spelled, (argument_spelled, (end_spelled, (within_spelled, tt))))))))

pub returns-clause-items : goal.returns-clause-items
returns-clause-items c = list_put c.args.builder.now head_functions c.in_ok-head_items.field-0 c.extend.new.self c.in_ok-head_items.ensures c.in_ok-extend.ensures.ok

pub returns-clause-there : goal.returns-clause-there
returns-clause-there c =
    let is : c.extend.new.self ≡ c.args.builder.now ++ head_functions = list_put c.args.builder.now head_functions c.in_ok-head_items.field-0 c.extend.new.self c.in_ok-head_items.ensures c.in_ok-extend.ensures.ok in
    subst HeadsAreThere (sym is) (heads_are_there c.args.builder.now c.requires)

pub returns-clause-mean : goal.returns-clause-mean
returns-clause-mean c =
    let is : c.extend.new.self ≡ c.args.builder.now ++ head_functions = list_put c.args.builder.now head_functions c.in_ok-head_items.field-0 c.extend.new.self c.in_ok-head_items.ensures c.in_ok-extend.ensures.ok in
    subst HeadsMean (sym is) (heads_mean c.args.builder.now)
