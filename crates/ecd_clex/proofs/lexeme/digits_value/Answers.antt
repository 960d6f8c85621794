use Rattle.std.proofs.Common.{◌+◌, ◌≤◌, arith}
use Rattle.std.specs.Str.Parse.{digits_value as value_meant}
use Rattle.ecd_clex.proofs.Digits.{one_digit, no_more}
use Rattle.ecd_clex.proofs.lexeme.digits_value.Goals as goal

pub returns-in_err-checked_mul-clause-none : goal.returns-in_err-checked_mul-clause-none
returns-in_err-checked_mul-clause-none c =
    let ds = c.args.digits.now in
    let i = c.loop-digit.digit-index in
    let next = one_digit ds i c.loop-digit.value c.requires c.loop-digit-test.true c.loop-digit.invariant in
    let large : 18446744073709551616 ≤ value_meant 10 ds = omega (arith, next, no_more ds (i + 1), c.in_err-checked_mul.ensures) in
    rw c.from_residual.ensures large

pub returns-in_err-value-clause-none : goal.returns-in_err-value-clause-none
returns-in_err-value-clause-none c =
    let ds = c.args.digits.now in
    let i = c.loop-digit.digit-index in
    let next = one_digit ds i c.loop-digit.value c.requires c.loop-digit-test.true c.loop-digit.invariant in
    let large : 18446744073709551616 ≤ value_meant 10 ds = omega (arith, next, no_more ds (i + 1), c.in_err-value.ensures, c.from.ensures, c.in_ok-checked_mul.ensures.1) in
    rw c.from_residual-in_err-value.ensures large

pub loop-digit-preserved : goal.loop-digit-preserved
loop-digit-preserved c =
    let ds = c.args.digits.now in
    let i = c.loop-digit.digit-index in
    let next = one_digit ds i c.loop-digit.value c.requires c.loop-digit-test.true c.loop-digit.invariant in
    omega (arith, next, c.in_ok-value.ensures.1, c.from.ensures, c.in_ok-checked_mul.ensures.1)
