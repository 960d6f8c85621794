use Rattle.std.proofs.Common.{◌≡◌, ◌∙◌, ap, arith, refl}
use Rattle.std.specs.Prelude.{slice_get, Some, map}
use Rattle.std.proofs.lemmas.Grind.{common_steps}
use Rattle.std.proofs.lemmas.Option.{slice_get_read}
use Rattle.ecd_ceval.specs.Machines.{value_of_arg}
use Rattle.ecd_ceval.proofs.Answering.{runs_early, runs_returns, runs_stuck, runs_spent, runs_wants}
use Rattle.ecd_ceval.proofs.calls.run.Goals as goal

pub returns-in_default-values_of : goal.returns-in_default-values_of
returns-in_default-values_of c =
    let read : slice_get c.args.items.now c.args.function ≡ Some c.in-Some-Function.field-0.now = grind (arith, common_steps, slice_get_read) in
    runs_early c.args.items.now c.args.function c.in-Some-Function.found (map value_of_arg c.args.args.now) c.args.limit (read ∙ ap Some c.in-Some-Function.field-0-is) c.args.state.now

pub returns-in-Ok-called : goal.returns-in-Ok-called
returns-in-Ok-called c =
    let read : slice_get c.args.items.now c.args.function ≡ Some c.in-Some-Function.field-0.now = grind (arith, common_steps, slice_get_read) in
    runs_returns c.args.items.now c.args.function c.in-Some-Function.found (map value_of_arg c.args.args.now) c.args.limit (read ∙ ap Some c.in-Some-Function.field-0-is) c.args.state.now (record { blocks = c.args.state.now.blocks; meter = c.start-state.result }) c.called.new.state refl c.start-state.ensures.meter c.in-Ok-called.number
    (rw (c.as_slice.ensures, c.in-Ok.ensures) at c.in-Ok-called.ensures)

pub returns-in-Err-Stuck : goal.returns-in-Err-Stuck
returns-in-Err-Stuck c =
    let read : slice_get c.args.items.now c.args.function ≡ Some c.in-Some-Function.field-0.now = grind (arith, common_steps, slice_get_read) in
    runs_stuck c.args.items.now c.args.function c.in-Some-Function.found (map value_of_arg c.args.args.now) c.args.limit (read ∙ ap Some c.in-Some-Function.field-0-is) c.args.state.now (record { blocks = c.args.state.now.blocks; meter = c.start-state.result }) c.called.new.state refl c.start-state.ensures.meter c.in-Err-Stuck.reason c.in-Err-Stuck.item c.in-Err-Stuck.statement
    (rw (c.as_slice.ensures, c.in-Ok.ensures, c.in-Err-Stuck.field-0-is) at c.in-Err-Stuck.ensures)

pub returns-in-Err-Spent : goal.returns-in-Err-Spent
returns-in-Err-Spent c =
    let read : slice_get c.args.items.now c.args.function ≡ Some c.in-Some-Function.field-0.now = grind (arith, common_steps, slice_get_read) in
    rw c.taken.ensures
    (runs_spent c.args.items.now c.args.function c.in-Some-Function.found (map value_of_arg c.args.args.now) c.args.limit (read ∙ ap Some c.in-Some-Function.field-0-is) c.args.state.now (record { blocks = c.args.state.now.blocks; meter = c.start-state.result }) c.called.new.state refl c.start-state.ensures.meter
    (rw (c.as_slice.ensures, c.in-Ok.ensures, c.in-Err-Spent.field-0-is) at c.in-Err-Spent.ensures))

pub returns : goal.returns
returns c =
    let read : slice_get c.args.items.now c.args.function ≡ Some c.in-Some-Function.field-0.now = grind (arith, common_steps, slice_get_read) in
    rw c.taken-in-Err-OutOfMemory.ensures
    (runs_wants c.args.items.now c.args.function c.in-Some-Function.found (map value_of_arg c.args.args.now) c.args.limit (read ∙ ap Some c.in-Some-Function.field-0-is) c.args.state.now (record { blocks = c.args.state.now.blocks; meter = c.start-state.result }) c.called.new.state refl c.start-state.ensures.meter c.start-state.ensures.small
    (rw (c.as_slice.ensures, c.in-Ok.ensures, c.in-Err-OutOfMemory.field-0-is) at c.in-Err-OutOfMemory.ensures))
