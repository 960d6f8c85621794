-- The functions are valid one behind the other, and stand behind the old items at the end.
use Rattle.std.proofs.Common.{◌≡◌, ◌++◌, sym, subst}
use Rattle.ecd_fixed_heads.specs.Extents.{extent_functions}
use Rattle.ecd_fixed_heads.specs.ExtentsStanding.{ExtentsAreThere, ExtentsMean}
use Rattle.ecd_fixed_heads.proofs.Extended.{own_spelled, inside_spelled, item_spelled, valid_own, valid_inside, valid_item, extents_are_there, extents_mean}
use Rattle.ecd_emit.proofs.Placed.{list_valid, list_spelled, list_put}
use Rattle.ecd_fixed_heads.proofs.extent.extents.Goals as goal

pub extend-requires-clause-valid : goal.extend-requires-clause-valid
extend-requires-clause-valid c =
    let old = c.args.builder.now in
    list_valid old extent_functions c.in_ok-extent_items.field-0 c.in_ok-extent_items.ensures (valid_own old c.requires.there c.requires.new, (valid_inside old c.requires.there c.requires.new, (valid_item old c.requires.there c.requires.new, tt)))

pub extend-requires-clause-spelled : goal.extend-requires-clause-spelled
extend-requires-clause-spelled c = list_spelled extent_functions c.in_ok-extent_items.field-0 c.in_ok-extent_items.ensures (own_spelled, (inside_spelled, (item_spelled, tt)))

pub returns-clause-items : goal.returns-clause-items
returns-clause-items c = list_put c.args.builder.now extent_functions c.in_ok-extent_items.field-0 c.extend.new.self c.in_ok-extent_items.ensures c.in_ok-extend.ensures.ok

pub returns-clause-there : goal.returns-clause-there
returns-clause-there c =
    let is : c.extend.new.self ≡ c.args.builder.now ++ extent_functions = list_put c.args.builder.now extent_functions c.in_ok-extent_items.field-0 c.extend.new.self c.in_ok-extent_items.ensures c.in_ok-extend.ensures.ok in
    subst ExtentsAreThere (sym is) (extents_are_there c.args.builder.now c.requires.there c.requires.new)

pub returns-clause-mean : goal.returns-clause-mean
returns-clause-mean c =
    let is : c.extend.new.self ≡ c.args.builder.now ++ extent_functions = list_put c.args.builder.now extent_functions c.in_ok-extent_items.field-0 c.extend.new.self c.in_ok-extent_items.ensures c.in_ok-extend.ensures.ok in
    subst ExtentsMean (sym is) (extents_mean c.args.builder.now c.requires.mean)
