use Rattle.std.proofs.Common.{◌≡◌, ◌⊎◌, ℕ, refl, sym, subst, arith}
use Rattle.ecd_cast.specs.Fitting.{Fits}
use Rattle.ecd_ceval.specs.Machines.{Seen}
use Rattle.ecd_commands.specs.Outcomes.{Outcome, OutOfMemory}
use Rattle.ecd_commands.specs.Calls.{IsHalted}
use Rattle.ecd_reader.proofs.Consuming.{two_blocks}
use Rattle.ecd_commands.proofs.Machines.{seen_for, values_for, machine_for, call_fits, call_returns, call_halts}
use Rattle.ecd_commands.proofs.cfiles.called.Goals as goal

pub call-requires : goal.call-requires
call-requires c =
    let p = c.args.program.now in
    let input = c.args.input.now in
    let r = c.args.reader.now in
    let e : c.in-Ok.place ≡ r.place = omega arith in
    let blocks = two_blocks c.new-blocks.result c.push.new.self c.push-2.new.self _ _ c.new-blocks.ensures c.in_ok-push.ensures.ok c.in_ok-push-2.ensures.ok in
    let is = machine_for c.in_ok-machine.machine p c.push-2.new.self _ input c.in-Ok.place r.declaration.now c.in_ok-machine.ensures blocks refl refl (rw e c.requires.reader.placed) in
    subst (λ (m : Seen). Fits m.program.items m.kinds m.memory r.function (values_for input)) (sym is)
    (rw e (call_fits p r.name.now r.function r.place r.declaration.now input c.requires.reader))

pub returns-in-Ok-call-clause-text : goal.returns-in-Ok-call-clause-text
returns-in-Ok-call-clause-text c =
    let p = c.args.program.now in
    let input = c.args.input.now in
    let r = c.args.reader.now in
    let e : c.in-Ok.place ≡ r.place = omega arith in
    let blocks = two_blocks c.new-blocks.result c.push.new.self c.push-2.new.self _ _ c.new-blocks.ensures c.in_ok-push.ensures.ok c.in_ok-push-2.ensures.ok in
    let is = machine_for c.in_ok-machine.machine p c.push-2.new.self _ input c.in-Ok.place r.declaration.now c.in_ok-machine.ensures blocks refl refl (rw e c.requires.reader.placed) in
    let at_place = subst (λ (n : ℕ). c.in_ok-machine.machine ≡ seen_for p input n r.declaration.now.cells) e is in
    call_returns p r.name.now input r.function r.place r.declaration.now c.args.steps c.in-Ok-call.number c.in_ok-machine.machine c.call.new.self c.cells.result.now c.in_ok-result_text-in-Ok-call.field-0
    c.requires.valid c.requires.reader at_place c.in-Ok-call.ensures.answers c.in-Ok-call.ensures.stays c.cells.ensures.named (rw c.as_slice-infos.ensures at c.in_ok-result_text-in-Ok-call.ensures)

pub returns-clause-halted : goal.returns-clause-halted
returns-clause-halted c =
    let p = c.args.program.now in
    let input = c.args.input.now in
    let r = c.args.reader.now in
    let e : c.in-Ok.place ≡ r.place = omega arith in
    let blocks = two_blocks c.new-blocks.result c.push.new.self c.push-2.new.self _ _ c.new-blocks.ensures c.in_ok-push.ensures.ok c.in_ok-push-2.ensures.ok in
    let is = machine_for c.in_ok-machine.machine p c.push-2.new.self _ input c.in-Ok.place r.declaration.now c.in_ok-machine.ensures blocks refl refl (rw e c.requires.reader.placed) in
    let at_place = subst (λ (n : ℕ). c.in_ok-machine.machine ≡ seen_for p input n r.declaration.now.cells) e is in
    let halts = call_halts p r.name.now input r.function r.place r.declaration.now c.args.steps c.in-Err.halt c.in_ok-machine.machine c.call.new.self c.requires.valid c.requires.reader at_place c.in-Err.ensures.answers in
    subst (λ (o : Outcome). (o ≡ OutOfMemory) ⊎ IsHalted p r.name.now input c.args.steps o) (sym c.halted.ensures) halts
