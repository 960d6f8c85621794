use Rattle.std.proofs.Common.{◌≡◌, [], ◌+◌, ◌-◌, suc, take, true, false, arith}
use Rattle.std.proofs.lemmas.Result.{err_from_is_err_and}
use Rattle.ecd_cast.specs.declared.value.Value.TheVariants.{Truth}
use Rattle.ecd_cast.specs.Expressions.{Gives, value_of}
use Rattle.ecd_cast.specs.Meaning.{count_all}
use Rattle.ecd_cast.specs.Meaning.{block}
use Rattle.ecd_ceval.specs.Following.{memory_in}
use Rattle.ecd_ceval.specs.Places.{calls_in, place_in}
use Rattle.ecd_ceval.proofs.Following.{follows_want}
use Rattle.ecd_ceval.proofs.Running.{block_next, block_stop, block_late, called_returns, called_stops, waits_called, waits_scoped, declare_called, declare_wants, declare_stops, assign_called, assign_stops, choice_first, choice_second, choice_wants, loop_turns, turn_stops, turn_flows, turn_next, turn_return, turn_stop, turns_end, call_follows}
use Rattle.ecd_ceval.proofs.statements.+statements.Goals as goal

pub assign-returns-in_err-returned-in-Call : goal.assign-returns-in_err-returned-in-Call
assign-returns-in_err-returned-in-Call t c =
    let p = err_from_is_err_and c.from_residual.result c.from_residual.ensures.1 in
    rw (p.1, p.2, c.in-Call.is) (assign_stops (calls_in c.args.context) c.args.name.now c.in-Call.function c.in-Call.args (place_in c.args.context c.args.number) c.args.variables.now c.args.state.now c.call.new.state _ _ (rw (c.as_slice.ensures, c.as_slice-in-Call.ensures) at c.in_err-returned-in-Call.ensures))

pub declare_number-returns-in_err-returned-in-Call : goal.declare_number-returns-in_err-returned-in-Call
declare_number-returns-in_err-returned-in-Call t c =
    let p = err_from_is_err_and c.from_residual.result c.from_residual.ensures.1 in
    rw (p.1, p.2, c.in-Call.is) (declare_stops (calls_in c.args.context) c.args.name.now c.in-Call.function c.in-Call.args (place_in c.args.context c.args.number) c.args.variables.now c.args.state.now c.call.new.state _ _ (rw (c.as_slice.ensures, c.as_slice-in-Call.ensures) at c.in_err-returned-in-Call.ensures))

pub assign-returns-in_ok-returned-in-Call : goal.assign-returns-in_ok-returned-in-Call
assign-returns-in_ok-returned-in-Call t c =
    rw (c.in-Call.is, c.assign-in-Call.ensures) (assign_called (calls_in c.args.context) c.args.name.now c.in-Call.function c.in-Call.args (place_in c.args.context c.args.number) c.args.variables.now c.args.state.now c.call.new.state _ (rw (c.as_slice.ensures, c.as_slice-in-Call.ensures) at c.in_ok-returned-in-Call.ensures))

pub declare_number-returns-in_ok-declare-in-Call : goal.declare_number-returns-in_ok-declare-in-Call
declare_number-returns-in_ok-declare-in-Call t c =
    rw (c.in-Call.is, c.in_ok-declare-in-Call.ensures) (declare_called (calls_in c.args.context) c.args.name.now c.in-Call.function c.in-Call.args (place_in c.args.context c.args.number) c.args.variables.now c.args.state.now c.call.new.state _ (rw (c.as_slice.ensures, c.as_slice-in-Call.ensures) at c.in_ok-returned-in-Call.ensures))

pub declare_number-returns-in_err-declare-in-Call : goal.declare_number-returns-in_err-declare-in-Call
declare_number-returns-in_err-declare-in-Call t c =
    let p = err_from_is_err_and c.from_residual-in_err-declare-in-Call.result c.from_residual-in_err-declare-in-Call.ensures.1 in
    rw (p.1, p.2, c.in-Call.is) (declare_wants (calls_in c.args.context) c.args.name.now c.in-Call.function c.in-Call.args (place_in c.args.context c.args.number) c.args.variables.now c.args.state.now c.call.new.state _ _ (rw (c.as_slice.ensures, c.as_slice-in-Call.ensures) at c.in_ok-returned-in-Call.ensures))

pub assign-returns-in-Value : goal.assign-returns-in-Value
assign-returns-in-Value t c =
    rw c.in-Value.is (c.assign.ensures (calls_in c.args.context))

pub declare_number-returns-in-Value : goal.declare_number-returns-in-Value
declare_number-returns-in-Value t c =
    rw c.in-Value.is (c.declare.ensures (calls_in c.args.context))

pub begin-returns-in-Pointer : goal.begin-returns-in-Pointer
begin-returns-in-Pointer t c =
    rw (c.in-Pointer.is, ← c.as_slice-in-Pointer.ensures) (c.declare.ensures (calls_in c.args.context))

pub begin-returns-in-Store : goal.begin-returns-in-Store
begin-returns-in-Store t c =
    rw (c.in-Store.is, ← c.as_slice-in-Store.ensures) (c.store.ensures (calls_in c.args.context))

pub begin-returns-in-SetCell : goal.begin-returns-in-SetCell
begin-returns-in-SetCell t c =
    rw (c.in-SetCell.is, ← c.as_slice-in-SetCell.ensures, ← c.as_slice-cell.ensures) (c.set_cell.ensures (calls_in c.args.context))

pub begin-returns-in-Return : goal.begin-returns-in-Return
begin-returns-in-Return t c =
    rw c.in-Return.is (c.give.ensures (calls_in c.args.context))

pub block-returns-in_err-begin : goal.block-returns-in_err-begin
block-returns-in_err-begin t c =
    let p = err_from_is_err_and c.from_residual.result c.from_residual.ensures.1 in
    rw (p.1, p.2) (block_stop (calls_in c.args.context) c.args.body.now c.loop-statement.statement-index c.statement-item.result c.statement-item.result (place_in c.args.context c.loop-statement.number) c.loop-statement.variables c.loop-statement.state c.loop-statement-test.true c.statement-item.is _ _ c.loop-statement.invariant c.begin.new.state c.begin.new.variables _ _ c.in_err-begin.ensures)

pub block-returns-in_err-number : goal.block-returns-in_err-number
block-returns-in_err-number t c =
    let p = err_from_is_err_and c.from_residual-in_err-number.result c.from_residual-in_err-number.ensures.1 in
    rw (p.1, p.2) (block_late (calls_in c.args.context) c.args.body.now c.loop-statement.statement-index c.statement-item.result c.statement-item.result (place_in c.args.context c.loop-statement.number) c.loop-statement.variables c.loop-statement.state c.loop-statement-test.true c.statement-item.is _ _ c.loop-statement.invariant c.begin.new.state c.begin.new.variables _ (rw c.in-Falls.is at c.in_ok-begin.ensures))

pub block-loop-statement-preserved : goal.block-loop-statement-preserved
block-loop-statement-preserved t c =
    rw c.in_ok-number.ensures (block_next (calls_in c.args.context) c.args.body.now c.loop-statement.statement-index c.statement-item.result c.statement-item.result (place_in c.args.context c.loop-statement.number) c.loop-statement.variables c.loop-statement.state c.loop-statement-test.true c.statement-item.is _ _ c.loop-statement.invariant c.begin.new.state c.begin.new.variables (rw c.in-Falls.is at c.in_ok-begin.ensures))

pub call-returns-in-Ok : goal.call-returns-in-Ok
call-returns-in-Ok t c =
    let given = rw (c.in-Ok.is, c.deref.ensures.value) at c.in_ok-values.ensures in
    call_follows (take c.args.context.item c.args.context.items.now) c.args.name.now c.args.args.now c.in-Ok.values (place_in c.args.context c.args.number) c.args.variables.now c.named.result c.args.state.now c.tick.new.self c.named.new.state (λ f. given (place_in c.args.context c.args.number) f) c.in_ok-tick.ensures
    (rw (c.in_ok-inner.ensures.same, c.as_slice.ensures) at c.named.ensures)

pub called-returns-in_err-variables : goal.called-returns-in_err-variables
called-returns-in_err-variables t c =
    let p = err_from_is_err_and c.from_residual.result c.from_residual.ensures.1 in
    rw (p.1, p.2) (follows_want _ [] c.args.state.now (waits_called (calls_in c.args.context) c.args.context.item c.args.function.now c.args.values.now (memory_in c.args.state.now)))

pub called-returns-in_err-number : goal.called-returns-in_err-number
called-returns-in_err-number t c =
    let p = err_from_is_err_and c.from_residual-in_err-number.result c.from_residual-in_err-number.ensures.1 in
    rw (p.1, p.2) (called_stops (calls_in c.args.context) c.args.context.item c.args.function.now c.args.values.now c.args.state.now c.block.new.state _ _ (rw (c.as_slice-2.ensures, c.in_ok-variables.ensures, c.as_slice.ensures) at c.in_err-number.ensures))

pub called-returns-in-Returns : goal.called-returns-in-Returns
called-returns-in-Returns t c =
    called_returns (calls_in c.args.context) c.args.context.item c.args.function.now c.args.values.now c.args.state.now c.block.new.state _ _ (rw (c.as_slice-2.ensures, c.in_ok-variables.ensures, c.as_slice.ensures, c.in-Returns.is) at c.in_ok-number.ensures)

pub choice-returns-in_err-second-in-Some : goal.choice-returns-in_err-second-in-Some
choice-returns-in_err-second-in-Some t c =
    let p = err_from_is_err_and c.from_residual-in_err-second-in-Some.result c.from_residual-in_err-second-in-Some.ensures.1 in
    let tells : Gives (Truth false) ≡ value_of c.args.test.now c.args.variables.now (memory_in c.tick.new.self) = rw (c.deref.ensures.value, c.in-Ok-Truth-false.field-0-is, c.in-Ok-Truth-false.field-0-0-test) at c.in-Ok-Truth-false.ensures in
    rw (p.1, p.2) (choice_wants (calls_in c.args.context) c.args.test.now c.args.yes.now c.args.no.now (place_in c.args.context c.args.number) c.args.variables.now c.args.variables.now c.args.state.now c.tick.new.self c.in_ok-tick.ensures tells)

pub choice-returns-in-Ok-Truth-true : goal.choice-returns-in-Ok-Truth-true
choice-returns-in-Ok-Truth-true t c =
    let tells : Gives (Truth true) ≡ value_of c.args.test.now c.args.variables.now (memory_in c.tick.new.self) = rw (c.deref.ensures.value, c.in-Ok-Truth-true.field-0-is, c.in-Ok-Truth-true.field-0-0-test) at c.in-Ok-Truth-true.ensures in
    choice_first (calls_in c.args.context) (place_in c.args.context c.args.number) c.args.variables.now c.args.state.now c.tick.new.self c.scoped.new.state c.scoped.result c.scoped.new.variables c.in_ok-tick.ensures c.args.test.now c.args.yes.now c.args.no.now tells (rw (c.in_ok-inner.ensures.same, c.in_ok-first.ensures) at c.scoped.ensures)

pub choice-returns-in_ok-second-in-Some : goal.choice-returns-in_ok-second-in-Some
choice-returns-in_ok-second-in-Some t c =
    let tells : Gives (Truth false) ≡ value_of c.args.test.now c.args.variables.now (memory_in c.tick.new.self) = rw (c.deref.ensures.value, c.in-Ok-Truth-false.field-0-is, c.in-Ok-Truth-false.field-0-0-test) at c.in-Ok-Truth-false.ensures in
    let second : c.in_ok-second-in-Some.second ≡ c.args.number + (1 + count_all c.args.yes.now) = let a = c.in_ok-second-in-Some.ensures in let b = c.in-Some.ensures in let d = c.in_ok-first.ensures in omega arith in
    choice_second (calls_in c.args.context) (place_in c.args.context c.args.number) c.args.variables.now c.args.state.now c.tick.new.self c.scoped-in-Some.new.state c.scoped-in-Some.result c.scoped-in-Some.new.variables c.in_ok-tick.ensures c.args.test.now c.args.yes.now c.args.no.now tells (rw (c.in_ok-inner.ensures.same, second) at c.scoped-in-Some.ensures)

pub choice-returns-in-None : goal.choice-returns-in-None
choice-returns-in-None t c =
    let tells : Gives (Truth false) ≡ value_of c.args.test.now c.args.variables.now (memory_in c.tick.new.self) = rw (c.deref.ensures.value, c.in-Ok-Truth-false.field-0-is, c.in-Ok-Truth-false.field-0-0-test) at c.in-Ok-Truth-false.ensures in
    choice_wants (calls_in c.args.context) c.args.test.now c.args.yes.now c.args.no.now (place_in c.args.context c.args.number) c.args.variables.now c.args.variables.now c.args.state.now c.tick.new.self c.in_ok-tick.ensures tells

pub repeat-returns-in_err-turn : goal.repeat-returns-in_err-turn
repeat-returns-in_err-turn t c =
    let p = err_from_is_err_and c.from_residual-in_err-turn.result c.from_residual-in_err-turn.ensures.1 in
    let more : c.in-Ok-Number.turns - c.loop-count.count ≡ suc (c.in-Ok-Number.turns - (c.loop-count.count + 1)) = omega arith in
    let whole = turn_stop (c.in-Ok-Number.turns - (c.loop-count.count + 1)) (c.in-Ok-Number.turns - c.loop-count.count) c.loop-count.count c.args.name.now (block (calls_in c.in_ok-inner.inner) c.args.body.now (place_in c.in_ok-inner.inner c.in_ok-first.first)) c.loop-count.variables c.loop-count.state _ _ more c.loop-count.invariant c.turn.new.state c.turn.new.variables c.turn.new.variables _ c.in_err-turn.ensures in
    rw (p.1, p.2) (loop_turns (calls_in c.args.context) (place_in c.args.context c.args.number) c.args.variables.now c.args.state.now c.tick.new.self c.turn.new.state _ c.turn.new.variables c.in_ok-tick.ensures c.args.name.now c.args.bound.now c.args.body.now c.in-Ok-Number.turns (rw c.in-Ok-Number.field-0-is at c.in-Ok-Number.ensures) (rw (c.in_ok-inner.ensures.same, c.in_ok-first.ensures) at whole))

pub repeat-returns-in-Returns : goal.repeat-returns-in-Returns
repeat-returns-in-Returns t c =
    let more : c.in-Ok-Number.turns - c.loop-count.count ≡ suc (c.in-Ok-Number.turns - (c.loop-count.count + 1)) = omega arith in
    let whole = turn_return (c.in-Ok-Number.turns - (c.loop-count.count + 1)) (c.in-Ok-Number.turns - c.loop-count.count) c.loop-count.count c.args.name.now (block (calls_in c.in_ok-inner.inner) c.args.body.now (place_in c.in_ok-inner.inner c.in_ok-first.first)) c.loop-count.variables c.loop-count.state _ _ more c.loop-count.invariant c.turn.new.state c.turn.new.variables c.turn.new.variables c.in-Returns.returned (rw c.in-Returns.is at c.in_ok-turn.ensures) in
    loop_turns (calls_in c.args.context) (place_in c.args.context c.args.number) c.args.variables.now c.args.state.now c.tick.new.self c.turn.new.state _ c.turn.new.variables c.in_ok-tick.ensures c.args.name.now c.args.bound.now c.args.body.now c.in-Ok-Number.turns (rw c.in-Ok-Number.field-0-is at c.in-Ok-Number.ensures) (rw (c.in_ok-inner.ensures.same, c.in_ok-first.ensures) at whole)

pub repeat-loop-count-preserved : goal.repeat-loop-count-preserved
repeat-loop-count-preserved t c =
    let more : c.in-Ok-Number.turns - c.loop-count.count ≡ suc (c.in-Ok-Number.turns - (c.loop-count.count + 1)) = omega arith in
    turn_next (c.in-Ok-Number.turns - (c.loop-count.count + 1)) (c.in-Ok-Number.turns - c.loop-count.count) c.loop-count.count c.args.name.now (block (calls_in c.in_ok-inner.inner) c.args.body.now (place_in c.in_ok-inner.inner c.in_ok-first.first)) c.loop-count.variables c.loop-count.state _ _ more c.loop-count.invariant c.turn.new.state c.turn.new.variables (rw c.in-Falls.is at c.in_ok-turn.ensures)

pub repeat-returns : goal.repeat-returns
repeat-returns t c =
    let none : c.in-Ok-Number.turns - c.loop-count.count ≡ 0 = omega arith in
    let whole = turns_end (c.in-Ok-Number.turns - c.loop-count.count) c.loop-count.count c.args.name.now (block (calls_in c.in_ok-inner.inner) c.args.body.now (place_in c.in_ok-inner.inner c.in_ok-first.first)) c.loop-count.variables c.loop-count.state _ _ none c.loop-count.invariant in
    loop_turns (calls_in c.args.context) (place_in c.args.context c.args.number) c.args.variables.now c.args.state.now c.tick.new.self c.loop-count.state _ c.loop-count.variables c.in_ok-tick.ensures c.args.name.now c.args.bound.now c.args.body.now c.in-Ok-Number.turns (rw c.in-Ok-Number.field-0-is at c.in-Ok-Number.ensures) (rw (c.in_ok-inner.ensures.same, c.in_ok-first.ensures) at whole)

pub scoped-returns-in_err-enter : goal.scoped-returns-in_err-enter
scoped-returns-in_err-enter t c =
    let p = err_from_is_err_and c.from_residual.result c.from_residual.ensures.1 in
    rw (p.1, p.2) (follows_want _ _ c.args.state.now (waits_scoped (calls_in c.args.context) c.args.body.now (place_in c.args.context c.args.first) c.args.variables.now (memory_in c.args.state.now)))

pub turn-returns-in_err-flow : goal.turn-returns-in_err-flow
turn-returns-in_err-flow t c =
    let p = err_from_is_err_and c.from_residual-in_err-flow.result c.from_residual-in_err-flow.ensures.1 in
    rw (p.1, p.2) (turn_stops c.args.name.now c.args.count (block (calls_in c.args.context) c.args.body.now (place_in c.args.context c.args.first)) c.args.variables.now _ _ c.args.state.now c.tick.new.self c.block.new.state _ c.in_ok-tick.ensures (rw (c.in_ok-declare.ensures, c.in_ok-enter.ensures) at c.in_err-flow.ensures))

pub turn-returns : goal.turn-returns
turn-returns t c =
    rw c.leave.ensures (turn_flows c.args.name.now c.args.count (block (calls_in c.args.context) c.args.body.now (place_in c.args.context c.args.first)) c.args.variables.now _ c.args.state.now c.tick.new.self c.block.new.state c.in_ok-flow.flow c.in_ok-tick.ensures (rw (c.in_ok-declare.ensures, c.in_ok-enter.ensures) at c.in_ok-flow.ensures))
