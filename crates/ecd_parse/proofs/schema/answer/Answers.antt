use Rattle.ecd_parse.proofs.Verdicts.{all_read, all_stuck}
use Rattle.ecd_parse.proofs.schema.answer.Goals as goal

pub returns-in-Ok : goal.returns-in-Ok
returns-in-Ok c = all_read 250 c.args.tokens.now c.in-Ok.rules c.in_default.ensures c.in-Ok.ensures

pub returns-in-Err-Unexpected : goal.returns-in-Err-Unexpected
returns-in-Err-Unexpected c =
    let stuck_there = rw c.in-Err-Unexpected.field-0-is at c.in-Err-Unexpected.ensures in
    all_stuck 250 c.in-Err-Unexpected.at c.args.end c.place_or.result c.args.tokens.now c.in_default.ensures stuck_there c.place_or.ensures
