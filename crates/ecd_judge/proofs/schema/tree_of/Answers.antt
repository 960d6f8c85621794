use Rattle.std.proofs.Common.{ap}
use Rattle.std.specs.Prelude.{length, Err}
use Rattle.ecd_uses.proofs.Inside.{rules_inside}
use Rattle.ecd_judge.proofs.Exact.{grammar_within}
use Rattle.ecd_judge.proofs.schema.tree_of.Goals as goal

pub returns-in-Err-parse-clause-within : goal.returns-in-Err-parse-clause-within
returns-in-Err-parse-clause-within c = rw c.of_grammar.ensures
    (grammar_within c.in-Err-parse.fault c.in-Ok.tokens (length c.args.text.now) c.in-Ok.ensures.places
    (λ place e. c.in-Err-parse.ensures.unexpected place (ap Err e)) (λ place e. c.in-Err-parse.ensures.nested place (ap Err e)))

pub returns-clause-inside : goal.returns-clause-inside
returns-clause-inside c = rules_inside c.in-Ok-parse.tree c.in-Ok.tokens (length c.args.text.now) c.in-Ok-parse.ensures.found.0 c.in-Ok.ensures.places
