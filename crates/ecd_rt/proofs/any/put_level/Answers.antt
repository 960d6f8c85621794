-- The functions are valid one behind the other.
use Rattle.std.proofs.Common.{◌≡◌, ◌++◌, arith}
use Rattle.ecd_emit.proofs.Placed.{list_valid, list_spelled, list_put}
use Rattle.ecd_rt.specs.Trees.{level_functions}
use Rattle.ecd_rt.proofs.Chaining.{valid_items, valid_pairs, valid_any, items_spelled, pairs_spelled, any_spelled}
use Rattle.ecd_rt.proofs.any.put_level.Goals as goal

pub extend-requires-clause-valid : goal.extend-requires-clause-valid
extend-requires-clause-valid c =
    let old = c.args.builder.now in
    let k = c.args.below in
    list_valid old (level_functions k) c.in_ok-level_items.field-0 c.in_ok-level_items.ensures (valid_items k old c.requires.there c.requires.new, (valid_pairs k old c.requires.there c.requires.new, (valid_any k old c.requires.there c.requires.new, tt)))

pub extend-requires-clause-spelled : goal.extend-requires-clause-spelled
extend-requires-clause-spelled c =
    let k = c.args.below in
    list_spelled (level_functions k) c.in_ok-level_items.field-0 c.in_ok-level_items.ensures (items_spelled k (omega (arith, c.requires.deep)), (pairs_spelled k (omega (arith, c.requires.deep)), (any_spelled k c.requires.deep, tt)))

pub returns : goal.returns
returns c = list_put c.args.builder.now (level_functions c.args.below) c.in_ok-level_items.field-0 c.extend.new.self c.in_ok-level_items.ensures c.in_ok-extend.ensures.ok
