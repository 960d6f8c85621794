use Rattle.std.proofs.Common.{◌∙◌, ap, List, ◌∷◌, ◌++◌, []}
use Rattle.ecd_cscope.specs.declared.variables.Declared.{Declared}
use Rattle.ecd_cast.specs.Kinds.{Known}
use Rattle.ecd_cscope.specs.Variables.{kind_as, known_in}
use Rattle.ecd_cscope.proofs.Known.{known-append, kept_more}
use Rattle.ecd_cscope.proofs.variables.Variables.declare.Goals as goal

pub invariant_of-self-in-Ok : goal.invariant_of-self-in-Ok
invariant_of-self-in-Ok c =
    let v : Declared = record { name = c.args.name; kind = c.args.kind; before = c.in-Ok.before } in
    rw (c.push_reserved.ensures.items, c.in_ok-reserve.ensures.items) (kept_more c.self.inside.declared.items v c.self.inside.kinds c.insert.new.self c.self.invariant c.in-Ok.ensures.old c.in-Ok.ensures.updates)

pub returns-in-Ok : goal.returns-in-Ok
returns-in-Ok c =
    let v : Declared = record { name = c.args.name; kind = c.args.kind; before = c.in-Ok.before } in
    ap known_in (c.push_reserved.ensures.items ∙ ap (λ (l : List Declared). l ++ v ∷ []) c.in_ok-reserve.ensures.items) ∙
    (known-append c.self.inside.declared.items v ∙ ap (λ (k : Known). (c.args.name.now, kind_as c.args.kind) ∷ k) c.self.view_is)
