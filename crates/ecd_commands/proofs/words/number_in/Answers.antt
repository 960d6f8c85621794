use Rattle.ecd_commands.proofs.Decimals.{parsed}
use Rattle.std.proofs.Common.{◌≡◌, arith, ap, ◌∙◌, true}
use Rattle.std.specs.Prelude.{Ok, decimal}
use Rattle.ecd_commands.proofs.words.number_in.Goals as goal

pub returns-in_default-clause-none : goal.returns-in_default-clause-none
returns-in_default-clause-none c = λ number least le e.
    c.in_default.not-Ok number (parsed c.args.word.now c.parse.result number c.args.most c.parse.ensures.value.0 le c.ranges.most.fits e)

pub returns-then-number-least-clause-none : goal.returns-then-number-least-clause-none
returns-then-number-least-clause-none c = λ number least le e.
    let read : c.parse.result ≡ Ok number = parsed c.args.word.now c.parse.result number c.args.most c.parse.ensures.value.0 le c.ranges.most.fits e in
    let same : number ≡ c.in-Ok.number = cc in
    omega arith

pub returns-then-most-number-clause-none : goal.returns-then-most-number-clause-none
returns-then-most-number-clause-none c = λ number least le e.
    let read : c.parse.result ≡ Ok number = parsed c.args.word.now c.parse.result number c.args.most c.parse.ensures.value.0 le c.ranges.most.fits e in
    let same : number ≡ c.in-Ok.number = cc in
    omega arith

pub returns-then-not-is_decimal-clause-none : goal.returns-then-not-is_decimal-clause-none
returns-then-not-is_decimal-clause-none c = λ number least le e.
    let read : c.parse.result ≡ Ok number = parsed c.args.word.now c.parse.result number c.args.most c.parse.ensures.value.0 le c.ranges.most.fits e in
    let same : number ≡ c.in-Ok.number = cc in
    let spelled : c.args.word.now ≡ decimal c.in-Ok.number = e ∙ ap decimal same in
    let yes : c.is_decimal.result ≡ true = c.is_decimal.ensures.1 spelled in
    cc
