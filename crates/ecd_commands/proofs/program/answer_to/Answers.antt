use Rattle.std.proofs.Common.{subst}
use Rattle.ecd_commands.specs.Asked.{Asked, bytes_of}
use Rattle.ecd_commands.specs.Commands.{asked_by}
use Rattle.ecd_commands.specs.Causes.{IsDue, StopsAt, Writes, WritesFront}
use Rattle.ecd_commands.specs.Answers.{outcome_of}
use Rattle.ecd_commands.proofs.Tables.{asks_one}
use Rattle.ecd_commands.proofs.program.answer_to.Goals as goal

pub returns-in-Err-clause-due : goal.returns-in-Err-clause-due
returns-in-Err-clause-due g c = λ decided asked asks.
    let f = g.F.Files in
    let own = asked_by c.in-Some.command in
    subst (λ (a : Asked). IsDue (f.told c.args.files.now) a (outcome_of c.in-Err.answer)) (asks_one (bytes_of c.args.words.now) own asked c.in-Some.ensures.asks asks)
    (c.in-Err.ensures.none.due decided)

pub returns-in-Err-clause-stops : goal.returns-in-Err-clause-stops
returns-in-Err-clause-stops g c = λ name is asked asks.
    let f = g.F.Files in
    let own = asked_by c.in-Some.command in
    subst (λ (a : Asked). StopsAt (f.told c.args.files.now) a (f.begun c.text_of.new.files) (f.left c.text_of.new.files) name) (asks_one (bytes_of c.args.words.now) own asked c.in-Some.ensures.asks asks)
    (c.in-Err.ensures.none.stops name is)

pub returns-in-Ok-put_all-clause-done : goal.returns-in-Ok-put_all-clause-done
returns-in-Ok-put_all-clause-done g c = λ _ asked asks.
    let own = asked_by c.in-Some.command in
    subst (λ (a : Asked). Writes (g.F.Files.told c.args.files.now) a (g.O.Sink.written c.args.out.now) (g.O.Sink.written c.put_all.new.sink))
    (asks_one (bytes_of c.args.words.now) own asked c.in-Some.ensures.asks asks)
    record { text = c.in-Ok.text; is_text = c.in-Ok.ensures.text; appended = rw c.as_slice.ensures at c.in-Ok-put_all.ensures.all }

pub returns-clause-front : goal.returns-clause-front
returns-clause-front g c = λ _ asked asks.
    let own = asked_by c.in-Some.command in
    subst (λ (a : Asked). WritesFront (g.F.Files.told c.args.files.now) a (g.O.Sink.written c.args.out.now) (g.O.Sink.written c.put_all.new.sink))
    (asks_one (bytes_of c.args.words.now) own asked c.in-Some.ensures.asks asks)
    record { text = c.in-Ok.text; is_text = c.in-Ok.ensures.text; front = rw c.as_slice.ensures at c.in-Err-put_all.ensures.front }
