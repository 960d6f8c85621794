use Rattle.std.proofs.Common.{sym, subst}
use Rattle.ecd_judge.specs.Request.{request}
use Rattle.ecd_judge.specs.Schema.{IsSound}
use Rattle.ecd_compile.proofs.compile_thin.Goals as goal

pub returns-in_default-clause-refused : goal.returns-in_default-clause-refused
returns-in_default-clause-refused c = record {
  rules = c.rules.result.now;
  sound = subst (IsSound (request c.args.schema.now c.args.root.now c.args.depth c.args.order)) (sym c.rules.ensures.same) c.in-Ok.ensures.sound;
  other = c.in_default.ensures;
}
