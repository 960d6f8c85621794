use Rattle.std.proofs.Common.{refl, sym, ◌∙◌, subst}
use Rattle.ecd_commands.specs.Outcomes.{Outcome, line_of, Done, OutOfMemory}
use Rattle.ecd_commands.specs.Answers.{outcome_of}
use Rattle.ecd_commands.specs.Causes.{TellsLine}
use Rattle.ecd_commands.proofs.Due.{due_is_left, text_is_left, status_left, is_done, is_write_fault, is_too_large}
use Rattle.ecd_commands.proofs.program.run.Goals as goal

pub returns-in-Ok-clause-refuses : goal.returns-in-Ok-clause-refuses
returns-in-Ok-clause-refuses g c = λ asked asks due some is_due free.
    let f = g.F.Files in
    let o = outcome_of c.answer_to-answer.result in
    let e = c.answer_to-answer.ensures in
    status_left c.status.result o due c.status.ensures
    (due_is_left (f.told c.args.files.now) asked o due (f.faults c.args.files.now) (f.faults c.answer_to-answer.new.files)
    (λ usage. e.usage.0 usage (asked, asks)) (λ fault. e.read_fault fault asked asks) (λ decided. e.due decided asked asks)
    (λ done. ((e.done done asked asks).text, (e.done done asked asks).is_text)) (λ front. ((e.front front asked asks).text, (e.front front asked asks).is_text)) some is_due free)

pub returns-in-Ok-clause-succeeds : goal.returns-in-Ok-clause-succeeds
returns-in-Ok-clause-succeeds g c = λ asked asks some is_accepted free free_out.
    let f = g.F.Files in
    let s = g.O.Sink in
    let o = outcome_of c.answer_to-answer.result in
    let e = c.answer_to-answer.ensures in
    status_left c.status.result o Done c.status.ensures
    (text_is_left (f.told c.args.files.now) asked o (f.faults c.args.files.now) (f.faults c.answer_to-answer.new.files) (s.faults c.args.out.now) (s.faults c.answer_to-answer.new.out)
    (λ usage. e.usage.0 usage (asked, asks)) (λ fault. e.read_fault fault asked asks) (λ decided. e.due decided asked asks) e.write_fault some is_accepted free free_out)

pub returns-in-Ok-clause-front : goal.returns-in-Ok-clause-front
returns-in-Ok-clause-front g c = λ is. c.answer_to-answer.ensures.front (is_write_fault (outcome_of c.answer_to-answer.result) (sym c.status.ensures ∙ is))

pub returns-in-Ok-clause-done : goal.returns-in-Ok-clause-done
returns-in-Ok-clause-done g c = λ is. c.answer_to-answer.ensures.done (is_done (outcome_of c.answer_to-answer.result) (sym c.status.ensures ∙ is))

pub returns-in-Ok-clause-stops : goal.returns-in-Ok-clause-stops
returns-in-Ok-clause-stops g c = λ is asked asks.
    let e = g.E.Sink in
    let large = is_too_large (outcome_of c.answer_to-answer.result) (sym c.status.ensures ∙ is) in
    record {
      name = large.0;
      line = subst (λ (o : Outcome). TellsLine (line_of o) (e.written c.args.err.now) (e.written c.tell.new.err) (e.faults c.args.err.now) (e.faults c.tell.new.err)) large.1
          (rw c.in-Ok.ensures.line at c.tell.ensures.line);
      stops = c.answer_to-answer.ensures.stops large.0 large.1 asked asks;
    }

pub returns-in-Err-clause-ended : goal.returns-in-Err-clause-ended
returns-in-Err-clause-ended g c = record { outcome = OutOfMemory; status_is = refl; due = λ decided. absurd decided; line = c.tell-in-Err.ensures.line }
