use Rattle.std.proofs.Common.{◌≤◌, ◌-◌, ◌+◌, length, take, drop, arith, sym}
use Rattle.std.proofs.lemmas.List.{length-drop, length-take}
use Rattle.ecd_head.proofs.Heads.{count_fits, IsBytes-drop, IsBytes-take}
use Rattle.ecd_head.proofs.head_placed.Goals as goal

within : (c : goal.After-head-1) → c.args.at + c.in_ok-head.count ≤ length c.args.bytes.now
within c =
    let bytes = c.args.bytes.now in
    let rest = drop c.args.at c.args.bytes.now in
    let n = length c.args.bytes.now - c.args.at in
    let h : c.in_ok-head.count ≤ length (take n rest) = count_fits (take n rest) c.in_ok-head.head c.in_ok-head.count (IsBytes-take n rest (IsBytes-drop c.args.at bytes (λ i. omega (arith, c.type_inv.bytes i)))) (sym c.in_ok-head.ensures) in
    omega (arith, h, length-take n rest, length-drop c.args.at bytes)

pub overflow_add-result : goal.overflow_add-result
overflow_add-result c = omega (arith, within c)

pub returns-clause-within : goal.returns-clause-within
returns-clause-within c = within c
