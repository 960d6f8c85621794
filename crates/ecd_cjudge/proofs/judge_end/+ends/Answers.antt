use Rattle.std.proofs.Common.{◌∙◌, sym, ap, refl}
use Rattle.std.specs.Option.{option_copied}
use Rattle.ecd_cjudge.proofs.NameLayers.{returns-If, returns-last, last_returns}
use Rattle.ecd_cjudge.proofs.judge_end.+ends.Goals as goal

pub stmt_returns-returns-in_ok-second-in-If : goal.stmt_returns-returns-in_ok-second-in-If
stmt_returns-returns-in_ok-second-in-If t c =
    rw (c.in-If.is, returns-If, ← c.as_slice.ensures, ← c.as_slice-in-If.ensures, ← c.in_ok-first-in-If.ensures, ← c.in_ok-second-in-If.ensures) refl

pub block_returns-returns-in_ok-ends-in-Some : goal.block_returns-returns-in_ok-ends-in-Some
block_returns-returns-in_ok-ends-in-Some t c = c.in_ok-ends-in-Some.ensures ∙ sym (returns-last c.args.stmts.now ∙ ap last_returns (sym c.last.ensures.value ∙ ap option_copied c.in-Some.is))

pub block_returns-returns-in-None : goal.block_returns-returns-in-None
block_returns-returns-in-None t c = sym (returns-last c.args.stmts.now ∙ ap last_returns (sym c.last.ensures.value ∙ ap option_copied c.in-None.is))
