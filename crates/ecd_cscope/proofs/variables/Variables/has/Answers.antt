use Rattle.std.proofs.Common.{◌∙◌, ap}
use Rattle.std.specs.Prelude.{is_some}
use Rattle.ecd_cast.specs.Validity.{is_among}
use Rattle.ecd_cast.specs.ByName.{named}
use Rattle.ecd_cscope.specs.Variables.{known_in, names_of}
use Rattle.ecd_cscope.proofs.Known.{known-among, some-kind}
use Rattle.ecd_cscope.proofs.variables.Variables.has.Goals as goal

pub returns : goal.returns
returns c =
    c.contains_key.ensures ∙ (some-kind (named c.self.inside.kinds c.args.name.now) ∙ (ap is_some (c.self.invariant.looks c.args.name.now) ∙
    (known-among (known_in c.self.inside.declared.items) c.args.name.now ∙ ap (λ k. is_among (names_of k) c.args.name.now) c.self.view_is)))
