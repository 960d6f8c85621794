use Rattle.std.proofs.Common.{◌≡◌, ◌<◌, List, length, drop, sym, subst, ap, ◌∙◌, arith}
use Rattle.std.proofs.lemmas.List.{length-append}
use Rattle.ecd_cast.specs.Spelling.{first_line}
use Rattle.ecd_clex.specs.declared.token.Token.{Token}
use Rattle.ecd_cread.specs.Answers.{place_or}
use Rattle.ecd_clex.specs.Tokens.{AllLexed}
use Rattle.ecd_cread.proofs.Laying.{spelled, bad_byte, stopped, first_line_there, no_first_line}
use Rattle.ecd_cread.proofs.program.answer.Goals as goal

pub lex-requires-clause-inside : goal.lex-requires-clause-inside
lex-requires-clause-inside c =
    let well = first_line_there c.args.text.now (sym c.begins_well.ensures ∙ c.if-not-begins_well.false) in
    omega (arith, ap length well.1, length-append first_line well.0)

pub returns-then-not-begins_well : goal.returns-then-not-begins_well
returns-then-not-begins_well c = no_first_line c.args.text.now (sym c.begins_well.ensures ∙ c.if-not-begins_well.true)

pub returns-in-Ok : goal.returns-in-Ok
returns-in-Ok c =
    let text = c.args.text.now in
    let well = first_line_there text (sym c.begins_well.ensures ∙ c.if-not-begins_well.false) in
    let all = subst (λ (ts : List Token). AllLexed text 20 ts c.in_ok-tokens.end) (sym c.as_slice.ensures) c.in_ok-tokens.ensures in
    spelled text c.as_slice.result.now c.in_ok-tokens.end 250 well all c.in-Ok.program c.if-end-text.true c.in-Ok.ensures

pub returns-in-Ok-2 : goal.returns-in-Ok-2
returns-in-Ok-2 c =
    let text = c.args.text.now in
    let well = first_line_there text (sym c.begins_well.ensures ∙ c.if-not-begins_well.false) in
    let all = subst (λ (ts : List Token). AllLexed text 20 ts c.in_ok-tokens.end) (sym c.as_slice.ensures) c.in_ok-tokens.ensures in
    let before : c.in_ok-tokens.end < length text = omega (arith, all.ends.within, c.if-end-text.false) in
    bad_byte text c.as_slice.result.now c.in_ok-tokens.end 250 well all c.in-Ok-2.field-0 before c.in-Ok-2.ensures

pub returns-in-Err-Unexpected : goal.returns-in-Err-Unexpected
returns-in-Err-Unexpected c =
    let text = c.args.text.now in
    let well = first_line_there text (sym c.begins_well.ensures ∙ c.if-not-begins_well.false) in
    let all = subst (λ (ts : List Token). AllLexed text 20 ts c.in_ok-tokens.end) (sym c.as_slice.ensures) c.in_ok-tokens.ensures in
    let stuck_there = rw c.in-Err-Unexpected.field-0-is at c.in-Err-Unexpected.ensures in
    let tokens_are : c.as_slice-in-Err-Unexpected.result.now ≡ c.as_slice.result.now = c.as_slice-in-Err-Unexpected.ensures ∙ sym c.as_slice.ensures in
    let place = c.place_or.ensures ∙ ap (λ (ts : List Token). place_or c.in_ok-tokens.end (drop c.in-Err-Unexpected.at ts)) tokens_are in
    stopped text c.as_slice.result.now c.in_ok-tokens.end 250 well all c.in-Err-Unexpected.at c.place_or.result stuck_there place
