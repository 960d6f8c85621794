use Rattle.std.proofs.Common.{◌+◌, take, refl}
use Rattle.ecd_parse.proofs.Verdicts.{front_stuck, front_read, front_ends}
use Rattle.ecd_parse.proofs.schema.fault_by.Goals.{in-Ok, in-Err-Unexpected+then-at-bracket, in-Err-Unexpected+else-at-bracket, in-Err-OutOfMemory}
use Rattle.ecd_parse.proofs.schema.fault_by.Goals as goal

pub returns : goal.returns
returns c =
    let tokens = c.args.tokens.now in
    let bracket = c.args.bracket in
    let front = take (bracket + 1) tokens in
    elim c.match-read_rules.branch [
      | in-Ok w ↦ rw (w.result-is, w.too_nested.ensures) (front_read 250 bracket tokens c.requires.within c.requires.before c.requires.opens w.in-Ok.field-0 front _ refl w.in-Ok.ensures refl)
      | in-Err-Unexpected+then-at-bracket w ↦
          let stuck_there = rw w.in-Err-Unexpected.field-0-is at w.in-Err-Unexpected.ensures in
          rw w.result-is (front_stuck 250 bracket tokens c.requires.within c.requires.before c.requires.opens w.in-Err-Unexpected.at c.args.end w.place_or.result front refl w.if-at-bracket.true stuck_there w.place_or.ensures)
      | in-Err-Unexpected+else-at-bracket w ↦
          let stuck_there = rw w.in-Err-Unexpected.field-0-is at w.in-Err-Unexpected.ensures in
          rw (w.result-is, w.too_nested-else-at-bracket.ensures) (front_ends 250 bracket tokens c.requires.within c.requires.before c.requires.opens w.in-Err-Unexpected.at front _ refl w.if-at-bracket.false stuck_there refl)
      | in-Err-OutOfMemory w ↦ rw w.result-is tt
    ]
