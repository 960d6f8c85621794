-- The functions are valid one behind the other, and stand behind the old items at the end.
use Rattle.std.proofs.Common.{◌≡◌, ◌++◌, sym, subst}
use Rattle.ecd_fixed_bytes.specs.Utf8.{utf8_functions}
use Rattle.ecd_fixed_bytes.specs.Standing.{Utf8IsThere, Utf8Means}
use Rattle.ecd_fixed_bytes.proofs.Texts.{begin_spelled, next_spelled, valid_spelled, begin_valid, next_valid, valid_valid, utf8_means, utf8_there}
use Rattle.ecd_emit.proofs.Placed.{list_valid, list_spelled, list_put}
use Rattle.ecd_fixed_bytes.proofs.utf8.utf8_check.Goals as goal

pub extend-requires-clause-valid : goal.extend-requires-clause-valid
extend-requires-clause-valid c =
    let old = c.args.builder.now in
    list_valid old utf8_functions c.in_ok-utf8_items.field-0 c.in_ok-utf8_items.ensures (begin_valid old c.requires, (next_valid old c.requires, (valid_valid old c.requires, tt)))

pub extend-requires-clause-spelled : goal.extend-requires-clause-spelled
extend-requires-clause-spelled c = list_spelled utf8_functions c.in_ok-utf8_items.field-0 c.in_ok-utf8_items.ensures (begin_spelled, (next_spelled, (valid_spelled, tt)))

pub returns-clause-items : goal.returns-clause-items
returns-clause-items c = list_put c.args.builder.now utf8_functions c.in_ok-utf8_items.field-0 c.extend.new.self c.in_ok-utf8_items.ensures c.in_ok-extend.ensures.ok

pub returns-clause-there : goal.returns-clause-there
returns-clause-there c =
    let is : c.extend.new.self ≡ c.args.builder.now ++ utf8_functions = list_put c.args.builder.now utf8_functions c.in_ok-utf8_items.field-0 c.extend.new.self c.in_ok-utf8_items.ensures c.in_ok-extend.ensures.ok in
    subst Utf8IsThere (sym is) (utf8_there c.args.builder.now c.requires)

pub returns-clause-mean : goal.returns-clause-mean
returns-clause-mean c =
    let is : c.extend.new.self ≡ c.args.builder.now ++ utf8_functions = list_put c.args.builder.now utf8_functions c.in_ok-utf8_items.field-0 c.extend.new.self c.in_ok-utf8_items.ensures c.in_ok-extend.ensures.ok in
    subst Utf8Means (sym is) (utf8_means c.args.builder.now)
