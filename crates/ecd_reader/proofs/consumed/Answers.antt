use Rattle.std.proofs.Common.{refl, sym, subst}
use Rattle.std.specs.Prelude.{Ok, None}
use Rattle.ecd_ceval.specs.Machines.{Seen, Answers, meaning}
use Rattle.ecd_cast.specs.Fitting.{Fits}
use Rattle.ecd_reader.proofs.Consuming.{reader_there, reader_fits, reader_takes, two_blocks, machine_is, values_for}
use Rattle.ecd_reader.proofs.consumed.Goals as goal

pub unreachable-requires : goal.unreachable-requires
unreachable-requires c = reader_there c.args.program.now.items c.requires.interface.names c.in_default.ensures

pub call-requires : goal.call-requires
call-requires c =
    let p = c.args.program.now in
    let input = c.args.input.now in
    let blocks = two_blocks c.new-blocks.result c.push.new.self c.push-2.new.self _ _ c.new-blocks.ensures c.in_ok-push.ensures.ok c.in_ok-push-2.ensures.ok in
    let is = machine_is c.in_ok-machine.machine p c.push-2.new.self _ input c.in_ok-machine.ensures blocks refl refl c.requires.interface.structs in
    subst (λ (m : Seen). Fits m.program.items m.kinds m.memory c.in-Some.reader (values_for input)) (sym is)
    (reader_fits p.items input c.in-Some.reader c.in-Some.ensures.function c.requires.interface c.in-Some.ensures.stands)

pub returns-in-Ok : goal.returns-in-Ok
returns-in-Ok c = λ number reads.
    let p = c.args.program.now in
    let input = c.args.input.now in
    let blocks = two_blocks c.new-blocks.result c.push.new.self c.push-2.new.self _ _ c.new-blocks.ensures c.in_ok-push.ensures.ok c.in_ok-push-2.ensures.ok in
    let is = machine_is c.in_ok-machine.machine p c.push-2.new.self _ input c.in_ok-machine.ensures blocks refl refl c.requires.interface.structs in
    let answers = subst (λ (m : Seen). Answers (meaning m.program.items c.in-Some.reader (values_for input) m.memory) None (Ok c.in-Ok.taken) m.memory c.call.new.self.memory) is c.in-Ok.ensures.answers in
    reader_takes p input c.in-Some.reader c.in-Some.ensures.function c.in-Ok.taken number c.call.new.self.memory c.requires.valid c.in-Some.ensures.stands c.in-Some.ensures.is_named c.requires.short reads answers
