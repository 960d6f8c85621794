use Rattle.std.proofs.Common.{length, sym}
use Rattle.std.proofs.lemmas.Bool.{ltb-true, ltb-false}
use Rattle.ecd_clex.proofs.Tokens.{got, got_none}
use Rattle.ecd_clex.proofs.token.lexeme_at.Goals as goal

pub returns-in-Some-clause-lexeme : goal.returns-in-Some-clause-lexeme
returns-in-Some-clause-lexeme c =
    let lookup = c.in-Some.ensures.lookup in
    rw c.lexeme_of.ensures (got c.args.text.now c.args.tokens.now c.args.at c.in-Some.token.now (ltb-true c.args.at (length c.args.tokens.now) (sym lookup.0)) lookup.1)

pub returns-in-None-clause-lexeme : goal.returns-in-None-clause-lexeme
returns-in-None-clause-lexeme c = got_none c.args.text.now c.args.tokens.now c.args.at (ltb-false c.args.at (length c.args.tokens.now) (sym c.in-None.ensures.lookup.0))
