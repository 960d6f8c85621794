use Rattle.std.proofs.Common.{◌∙◌, sym, ap}
use Rattle.std.specs.Prelude.{Some, None, if◌then◌else◌, bytes_eq}
use Rattle.ecd_cast.specs.ByName.{named}
use Rattle.ecd_cast.proofs.Names.{changed}
use Rattle.ecd_cscope.proofs.variables.put_back.Goals as goal

pub returns-in-Ok-clause-ok : goal.returns-in-Ok-clause-ok
returns-in-Ok-clause-ok c x =
    changed (λ k. k.now) c.args.kinds.now c.insert.new.self c.args.name.now (Some c.in-Some.kind) c.in-Ok.ensures.updates x ∙
    ap (λ o. if bytes_eq c.args.name.now x then o else named c.args.kinds.now x) (sym c.in-Some.is)

pub returns-in-None-clause-ok : goal.returns-in-None-clause-ok
returns-in-None-clause-ok c x =
    changed (λ k. k.now) c.args.kinds.now c.remove.new.self c.args.name.now None c.remove.ensures.updates x ∙
    ap (λ o. if bytes_eq c.args.name.now x then o else named c.args.kinds.now x) (sym c.in-None.is)
