use Rattle.ecd_lex.proofs.Determined.{only_answer, first_answer, places_answer, within_answer}
use Rattle.ecd_lex.proofs.text.lex.Goals as goal

pub returns-clause-only : goal.returns-clause-only
returns-clause-only c =
    only_answer c.args.text.now c.tokens_of.result (rw c.as_bytes.ensures.value at c.tokens_of.ensures.found) (rw c.as_bytes.ensures.value at c.tokens_of.ensures.fault)

pub returns-clause-first : goal.returns-clause-first
returns-clause-first c =
    first_answer c.args.text.now c.tokens_of.result (rw c.as_bytes.ensures.value at c.tokens_of.ensures.found) (rw c.as_bytes.ensures.value at c.tokens_of.ensures.fault)

pub returns-clause-places : goal.returns-clause-places
returns-clause-places c = places_answer c.args.text.now c.tokens_of.result (rw c.as_bytes.ensures.value at c.tokens_of.ensures.found)

pub returns-clause-within : goal.returns-clause-within
returns-clause-within c = within_answer c.args.text.now c.tokens_of.result (rw c.as_bytes.ensures.value at c.tokens_of.ensures.fault)
