use Rattle.std.proofs.Common.{List, subst}
use Rattle.ecd_lex.specs.declared.token.Token.{Token}
use Rattle.ecd_parse.specs.Answers.{Answers}
use Rattle.ecd_parse.proofs.Verdicts.{only_tree, only_unexpected, only_nested}
use Rattle.ecd_parse.proofs.schema.parse.Goals as goal

pub returns-clause-only : goal.returns-clause-only
returns-clause-only c =
    let answered : Answers c.args.tokens.now c.args.length c.answer.result = subst (λ (ts : List Token). Answers ts c.args.length c.answer.result) c.as_slice.ensures c.answer.ensures in
    only_tree c.args.tokens.now c.args.length c.answer.result answered

pub returns-clause-only_unexpected : goal.returns-clause-only_unexpected
returns-clause-only_unexpected c =
    let answered : Answers c.args.tokens.now c.args.length c.answer.result = subst (λ (ts : List Token). Answers ts c.args.length c.answer.result) c.as_slice.ensures c.answer.ensures in
    only_unexpected c.args.tokens.now c.args.length c.answer.result answered

pub returns-clause-only_nested : goal.returns-clause-only_nested
returns-clause-only_nested c =
    let answered : Answers c.args.tokens.now c.args.length c.answer.result = subst (λ (ts : List Token). Answers ts c.args.length c.answer.result) c.as_slice.ensures c.answer.ensures in
    only_nested c.args.tokens.now c.args.length c.answer.result answered
