use Rattle.std.proofs.Common.{arith, ◌≡◌, ◌+◌, ◌<◌, length, drop, false, Ok, Err}
use Rattle.std.proofs.lemmas.Bool.Decides.{nat_tests}
use Rattle.ecd_lex.specs.Scan.{gap_len, front_found}
use Rattle.ecd_lex.proofs.Steps.{next_begins, next_end, next_some, next_stands, next_fault, next_place}
use Rattle.ecd_lex.proofs.text.next_token.Goals as goal

pub overflow_add-begin : goal.overflow_add-begin
overflow_add-begin c =
    let g : c.gap_len.result ≡ gap_len false (drop c.args.at c.args.text.now) = grind arith in
    let h = next_begins c.args.text.now c.args.at c.gap_len.result g c.requires.inside in
    omega (arith, h)

pub returns-then-is_empty-clause-end : goal.returns-then-is_empty-clause-end
returns-then-is_empty-clause-end c =
    let g : c.gap_len.result ≡ gap_len false (drop c.args.at c.args.text.now) = grind arith in
    let s : length (drop (c.args.at + c.gap_len.result) c.args.text.now) ≡ 0 = grind (arith, nat_tests) in
    next_end c.args.text.now c.args.at c.gap_len.result g c.requires.inside s

pub overflow_add-result : goal.overflow_add-result
overflow_add-result c =
    let g : c.gap_len.result ≡ gap_len false (drop c.args.at c.args.text.now) = grind arith in
    let s : 0 < length (drop (c.args.at + c.gap_len.result) c.args.text.now) = grind (arith, nat_tests) in
    let e : front_found (drop (c.args.at + c.gap_len.result) c.args.text.now) ≡ Ok c.in-Ok.found = grind arith in
    let h = next_some c.args.text.now c.args.at c.gap_len.result g c.requires.inside c.in-Ok.found s e in
    omega (arith, h.0, h.1)

pub overflow_cast-result-in-Ok : goal.overflow_cast-result-in-Ok
overflow_cast-result-in-Ok c =
    let g : c.gap_len.result ≡ gap_len false (drop c.args.at c.args.text.now) = grind arith in
    let s : 0 < length (drop (c.args.at + c.gap_len.result) c.args.text.now) = grind (arith, nat_tests) in
    let e : front_found (drop (c.args.at + c.gap_len.result) c.args.text.now) ≡ Ok c.in-Ok.found = grind arith in
    let h = next_some c.args.text.now c.args.at c.gap_len.result g c.requires.inside c.in-Ok.found s e in
    omega (arith, h.0, h.1)

pub returns-in-Ok-clause-further : goal.returns-in-Ok-clause-further
returns-in-Ok-clause-further c =
    let g : c.gap_len.result ≡ gap_len false (drop c.args.at c.args.text.now) = grind arith in
    let s : 0 < length (drop (c.args.at + c.gap_len.result) c.args.text.now) = grind (arith, nat_tests) in
    let e : front_found (drop (c.args.at + c.gap_len.result) c.args.text.now) ≡ Ok c.in-Ok.found = grind arith in
    let h = next_some c.args.text.now c.args.at c.gap_len.result g c.requires.inside c.in-Ok.found s e in
    omega (arith, h.0, h.1)

pub returns-in-Ok-clause-within : goal.returns-in-Ok-clause-within
returns-in-Ok-clause-within c =
    let g : c.gap_len.result ≡ gap_len false (drop c.args.at c.args.text.now) = grind arith in
    let s : 0 < length (drop (c.args.at + c.gap_len.result) c.args.text.now) = grind (arith, nat_tests) in
    let e : front_found (drop (c.args.at + c.gap_len.result) c.args.text.now) ≡ Ok c.in-Ok.found = grind arith in
    let h = next_some c.args.text.now c.args.at c.gap_len.result g c.requires.inside c.in-Ok.found s e in
    omega (arith, h.0, h.1)

pub overflow_add-result-in-Err-At : goal.overflow_add-result-in-Err-At
overflow_add-result-in-Err-At c =
    let g : c.gap_len.result ≡ gap_len false (drop c.args.at c.args.text.now) = grind arith in
    let s : 0 < length (drop (c.args.at + c.gap_len.result) c.args.text.now) = grind (arith, nat_tests) in
    let e : front_found (drop (c.args.at + c.gap_len.result) c.args.text.now) ≡ Err (c.in-Err-At.offset, c.in-Err-At.rule) = grind arith in
    let h = next_place c.args.text.now c.args.at c.gap_len.result g c.requires.inside c.in-Err-At.offset c.in-Err-At.rule s e in
    omega (arith, h)

pub overflow_cast-result-in-Err-At : goal.overflow_cast-result-in-Err-At
overflow_cast-result-in-Err-At c =
    let g : c.gap_len.result ≡ gap_len false (drop c.args.at c.args.text.now) = grind arith in
    let s : 0 < length (drop (c.args.at + c.gap_len.result) c.args.text.now) = grind (arith, nat_tests) in
    let e : front_found (drop (c.args.at + c.gap_len.result) c.args.text.now) ≡ Err (c.in-Err-At.offset, c.in-Err-At.rule) = grind arith in
    let h = next_place c.args.text.now c.args.at c.gap_len.result g c.requires.inside c.in-Err-At.offset c.in-Err-At.rule s e in
    omega (arith, h)

pub returns-in-Ok-clause-token : goal.returns-in-Ok-clause-token
returns-in-Ok-clause-token c =
    let g : c.gap_len.result ≡ gap_len false (drop c.args.at c.args.text.now) = grind arith in
    let s : 0 < length (drop (c.args.at + c.gap_len.result) c.args.text.now) = grind (arith, nat_tests) in
    let e : front_found (drop (c.args.at + c.gap_len.result) c.args.text.now) ≡ Ok c.in-Ok.found = grind arith in
    next_stands c.args.text.now c.args.at c.gap_len.result g c.requires.inside c.in-Ok.found c.args.follows c.is_glued.result s e c.is_glued.ensures

pub returns-in-Err-At-clause-fault : goal.returns-in-Err-At-clause-fault
returns-in-Err-At-clause-fault c =
    let g : c.gap_len.result ≡ gap_len false (drop c.args.at c.args.text.now) = grind arith in
    let s : 0 < length (drop (c.args.at + c.gap_len.result) c.args.text.now) = grind (arith, nat_tests) in
    let e : front_found (drop (c.args.at + c.gap_len.result) c.args.text.now) ≡ Err (c.in-Err-At.offset, c.in-Err-At.rule) = grind arith in
    next_fault c.args.text.now c.args.at c.gap_len.result g c.requires.inside c.in-Err-At.offset c.in-Err-At.rule s e
