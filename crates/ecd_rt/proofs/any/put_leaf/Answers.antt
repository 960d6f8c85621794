-- The functions are valid one behind the other.
use Rattle.std.proofs.Common.{◌≡◌, ◌++◌}
use Rattle.ecd_emit.proofs.Placed.{list_valid, list_spelled, list_put}
use Rattle.ecd_rt.specs.Trees.{any_functions}
use Rattle.ecd_rt.proofs.Chaining.{valid_text, valid_leaf, text_spelled, leaf_spelled}
use Rattle.ecd_rt.proofs.any.put_leaf.Goals as goal

pub extend-requires-clause-valid : goal.extend-requires-clause-valid
extend-requires-clause-valid c =
    let old = c.args.builder.now in
    list_valid old (any_functions 0) c.in_ok-leaf_items.field-0 c.in_ok-leaf_items.ensures (valid_text old c.requires.there c.requires.new, (valid_leaf old c.requires.there c.requires.new, tt))

pub extend-requires-clause-spelled : goal.extend-requires-clause-spelled
extend-requires-clause-spelled c = list_spelled (any_functions 0) c.in_ok-leaf_items.field-0 c.in_ok-leaf_items.ensures (text_spelled, (leaf_spelled, tt))

pub returns : goal.returns
returns c = list_put c.args.builder.now (any_functions 0) c.in_ok-leaf_items.field-0 c.extend.new.self c.in_ok-leaf_items.ensures c.in_ok-extend.ensures.ok
