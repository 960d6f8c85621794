use Rattle.std.proofs.Common.{◌≡◌, ap, sym, ◌∙◌}
use Rattle.std.specs.Prelude.{Some, None}
use Rattle.std.specs.Option.{option_copied}
use Rattle.ecd_cast.specs.ByName.{under}
use Rattle.ecd_cbuild.specs.Chains.{calls_in, variables_in}
use Rattle.ecd_cbuild.proofs.chains.source_reach.Goals as goal

pub returns-in-Some-clause-calls : goal.returns-in-Some-clause-calls
returns-in-Some-clause-calls c =
    let found : under c.args.reaches.now c.in-Call.name ≡ Some c.in-Some.reach.now = rw (← c.as_slice.ensures) (sym c.get.ensures.value ∙ ap option_copied c.in-Some.is) in
    rw c.in-Call.is (sym (ap calls_in found))

pub returns-in-Some-clause-variables : goal.returns-in-Some-clause-variables
returns-in-Some-clause-variables c =
    let found : under c.args.reaches.now c.in-Call.name ≡ Some c.in-Some.reach.now = rw (← c.as_slice.ensures) (sym c.get.ensures.value ∙ ap option_copied c.in-Some.is) in
    rw c.in-Call.is (sym (ap variables_in found))

pub returns-in-None-clause-calls : goal.returns-in-None-clause-calls
returns-in-None-clause-calls c =
    let found : under c.args.reaches.now c.in-Call.name ≡ None = rw (← c.as_slice.ensures) (sym c.get.ensures.value ∙ ap option_copied c.in-None.is) in
    rw c.in-Call.is (sym (ap calls_in found))

pub returns-in-None-clause-variables : goal.returns-in-None-clause-variables
returns-in-None-clause-variables c =
    let found : under c.args.reaches.now c.in-Call.name ≡ None = rw (← c.as_slice.ensures) (sym c.get.ensures.value ∙ ap option_copied c.in-None.is) in
    rw c.in-Call.is (sym (ap variables_in found))
