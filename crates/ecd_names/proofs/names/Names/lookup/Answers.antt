use Rattle.std.proofs.Common.{ℕ, List, subst}
use Rattle.ecd_syntax.specs.declared.tree.Rule.{Rule}
use Rattle.ecd_names.specs.declared.info.NameInfo.{NameInfo}
use Rattle.ecd_names.specs.Names.{IsInfo}
use Rattle.ecd_names.proofs.names.Names.lookup.Goals as goal

pub returns : goal.returns
returns c =
    let info : NameInfo = record { group = c.is_group.result; params = c.arity.result; bodies = c.body_count.result } in
    subst (λ (n : List ℕ). IsInfo c.args.self.now n info) c.as_bytes-name.ensures.value
    (subst (λ (t : List Rule). IsInfo t c.as_bytes-name.result.now info) c.self.view_is
    (record { defined = c.is_defined.ensures.0 c.if-not-is_defined.false; group = c.is_group.ensures; params = c.arity.ensures; bodies = c.body_count.ensures }))
