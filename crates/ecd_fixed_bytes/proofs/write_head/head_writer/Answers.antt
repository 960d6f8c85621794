-- The functions are valid one behind the other, and stand behind the old items at the end.
use Rattle.std.proofs.Common.{◌≡◌, ◌++◌, sym, subst}
use Rattle.ecd_fixed_bytes.specs.HeadWriter.{put_functions}
use Rattle.ecd_fixed_bytes.specs.Standing.{HeadWriterIsThere, HeadWriterMeans}
use Rattle.ecd_fixed_bytes.proofs.HeadWriting.{length_spelled, be16_spelled, be32_spelled, be64_spelled, head_spelled, length_valid, be16_valid, be32_valid, be64_valid, head_valid, writer_means, writer_is_there}
use Rattle.ecd_emit.proofs.Placed.{list_valid, list_spelled, list_put}
use Rattle.ecd_fixed_bytes.proofs.write_head.head_writer.Goals as goal

pub extend-requires-clause-valid : goal.extend-requires-clause-valid
extend-requires-clause-valid c =
    let old = c.args.builder.now in
    list_valid old put_functions c.in_ok-put_items.field-0 c.in_ok-put_items.ensures (length_valid old c.requires, (be16_valid old c.requires, (be32_valid old c.requires, (be64_valid old c.requires, (head_valid old c.requires, tt)))))

pub extend-requires-clause-spelled : goal.extend-requires-clause-spelled
extend-requires-clause-spelled c = list_spelled put_functions c.in_ok-put_items.field-0 c.in_ok-put_items.ensures (length_spelled, (be16_spelled, (be32_spelled, (be64_spelled, (head_spelled, tt)))))

pub returns-clause-items : goal.returns-clause-items
returns-clause-items c = list_put c.args.builder.now put_functions c.in_ok-put_items.field-0 c.extend.new.self c.in_ok-put_items.ensures c.in_ok-extend.ensures.ok

pub returns-clause-there : goal.returns-clause-there
returns-clause-there c =
    let is : c.extend.new.self ≡ c.args.builder.now ++ put_functions = list_put c.args.builder.now put_functions c.in_ok-put_items.field-0 c.extend.new.self c.in_ok-put_items.ensures c.in_ok-extend.ensures.ok in
    subst HeadWriterIsThere (sym is) (writer_is_there c.args.builder.now c.requires)

pub returns-clause-mean : goal.returns-clause-mean
returns-clause-mean c =
    let is : c.extend.new.self ≡ c.args.builder.now ++ put_functions = list_put c.args.builder.now put_functions c.in_ok-put_items.field-0 c.extend.new.self c.in_ok-put_items.ensures c.in_ok-extend.ensures.ok in
    subst HeadWriterMeans (sym is) (writer_means c.args.builder.now)
